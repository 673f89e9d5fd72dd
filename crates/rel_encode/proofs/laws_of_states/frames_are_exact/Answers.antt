use Rattle.rel_encode.proofs.ExactFrames.{exact_frame}
use Rattle.rel_encode.proofs.laws_of_states.frames_are_exact.Goals as goal

pub returns : goal.returns
returns c = exact_frame
