-- The text that is printed for a bundle stands for one that is equal but for places.
use Rattle.rel_show.specs.Laws.{PrintedTextsStand}
use Rattle.rel_show.proofs.Cutting.{printed_is_cut}
use Rattle.rel_show.proofs.PlacesItems.{spelled_tokens}

pub printed_stands : PrintedTextsStand
printed_stands b printable utf8 =
    let text = printed_is_cut b printable utf8 in
    let placed = spelled_tokens b printable text.found text.spelled in
    (placed.0, placed.1, record { utf8 = text.utf8; printable = placed.2; found = text.found; cut = text.cut; spelled = placed.3 })
