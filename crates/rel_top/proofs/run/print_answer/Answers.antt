use Rattle.rel_top.proofs.Endings.{all_printed, not_printed}
use Rattle.rel_top.proofs.run.print_answer.Goals as goal

pub returns-in-Ok : goal.returns-in-Ok
returns-in-Ok g c = all_printed _ _ c.in-Ok.ensures.printed

pub returns-in-Err-Failed : goal.returns-in-Err-Failed
returns-in-Err-Failed g c = not_printed _ _ c.in-Err-Failed.ensures.cut_off
