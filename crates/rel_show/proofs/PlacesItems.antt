-- Tokens of a bundle are those of a bundle that is equal but for places.
use Rattle.std.proofs.Common.{ℕ, List, ◌++◌, refl, ap}
use Rattle.rel_lang.specs.Syntax.{Word, Clause, RelClause, Spec, Block, Body, Proc, Sig, ClassItem, Interface, Module, UnitItem, Client, Judgement, ModulePair, Align, Decl, Place, Item, OfClass, OfInterface, OfModule, OfUnit, OfClient, OfJudgement, OfPair, without_at}
use Rattle.rel_lang.specs.Text.{braced, show_formula, show_rel, show_commands, show_place, show_clause, show_rel_clause, show_spec, show_locals, show_head, show_proc, show_sig, show_class, show_boundary, show_interface, show_method, show_module, show_unit, show_client, show_judgement, show_pair_method, show_pair, show_item, show_tokens, repeated, IsShapedItem}
use Rattle.rel_show.specs.Places.{clause_without_at, rel_clause_without_at, spec_without_at, proc_without_at, sig_without_at, class_without_at, interface_without_at, method_without_at, module_without_at, unit_without_at, client_without_at, judgement_without_at, pair_method_without_at, pair_without_at, item_without_at}
use Rattle.rel_show.proofs.Spelled.{SpelledTokensPlaceABundle}
use Rattle.rel_show.proofs.Places.{Places, placed_match, placed_said, done, keep, start, start_both, append, last, skip, whole, started, braced_places, repeated_places}
use Rattle.rel_show.proofs.PlacesPlain.{plain_formula, plain_rel, plain_braced, plain_listed, plain_globals, plain_locals, plain_fields, plain_place, plain_writes, plain_head}
use Rattle.rel_show.proofs.PlacesShapes.{same_shapes, item_shape}
use Rattle.rel_show.proofs.PlacesCommands.{commands_places}
use Rattle.rel_show.proofs.PlacesBiprograms.{align_places}

clause_places : (c : Clause) → Places clause_without_at show_clause c
clause_places c = whole (started c.at (show_formula 1 c.formula) (skip (plain_formula 1 c.formula) λ place. (record c { at = place }, refl, refl)))

rel_clause_places : (c : RelClause) → Places rel_clause_without_at show_rel_clause c
rel_clause_places c = whole (started c.at (show_rel 1 c.formula) (skip (plain_rel 1 c.formula) λ place. (record c { at = place }, refl, refl)))

spec_places : (s : Spec) → Places spec_without_at show_spec s
spec_places s =
    whole (keep (append (append (last (clause_places s.needs) λ n en.
    keep (last (clause_places s.gives) λ g eg.
    skip (plain_writes s.writes)
    (record { needs = n; gives = g; writes = s.writes }, cc, refl))))))

-- the commands of a body with these variables
body_places : (ds : List Decl) (b : Block) → Places without_at (λ c. braced (show_locals ds ++ show_commands 1 1 c)) b
body_places ds b = braced_places {show = λ c. show_locals ds ++ show_commands 1 1 c} (whole (append (skip (plain_locals ds) (last (commands_places 1 1 b) λ c e. (c, e, refl)))))

proc_places : (p : Proc) → Places proc_without_at show_proc p
proc_places p =
    whole (start_both λ place. append (append {ms = show_head p.name p.params p.result} (skip (plain_head p.name p.params p.result)
    (last (spec_places p.spec) λ s es.
    last (body_places p.body.locals p.body.commands) λ c ec.
    (record p { at = place; spec = s; body = record p.body { at = place; commands = c } }, cc, refl)))))

sig_places : (s : Sig) → Places sig_without_at show_sig s
sig_places s =
    whole (start λ place. append (append {ms = show_head s.name s.params s.result} (skip (plain_head s.name s.params s.result)
    (last (spec_places s.spec) λ x e.
    keep (done (record s { at = place; spec = x }, cc, refl))))))

class_places : (c : ClassItem) → Places class_without_at show_class c
class_places c = whole (start λ place. skip (refl, plain_braced _ (plain_fields c.fields)) (record c { at = place }, refl, refl))

boundary_places : (ps : List Place) (at : ℕ) → Places (λ n. 0) (λ n. show_boundary n ps) at
boundary_places ps at = whole (start λ place. skip (plain_braced _ (plain_listed show_place plain_place ps)) (place, refl, refl))

interface_places : (i : Interface) → Places interface_without_at show_interface i
interface_places i =
    whole (start λ place. keep (keep (append (append (append (append (append (skip (plain_globals i.globals)
    (last (boundary_places i.boundary i.boundary_at) λ b eb.
    keep (keep (last (clause_places i.init_ensures) λ c ec.
    skip (plain_writes i.init_writes)
    (last (repeated_places sig_places 1 i.methods) λ ms ems.
    keep (done (record i { at = place; boundary_at = b; init_ensures = c; methods = ms }, cc, refl))))))))))))))

method_places : (m : Word × Body) → Places method_without_at show_method m
method_places m = whole (start λ place. keep (last (body_places m.1.locals m.1.commands) λ c e. ((m.0, record m.1 { at = place; commands = c }), cc, refl)))

module_places : (m : Module) → Places module_without_at show_module m
module_places m =
    whole (start λ place. keep (keep (keep (keep (append (append (append (append (skip (plain_globals m.globals)
    (keep (last (clause_places m.invariant) λ c ec.
    keep (start λ p. last (body_places m.init.locals m.init.commands) λ b eb.
    last (repeated_places method_places 1 m.methods) λ ms ems.
    keep (done (record m { at = place; invariant = c; init = record m.init { at = p; commands = b }; methods = ms }, cc, refl))))))))))))))

unit_places : (u : UnitItem) → Places unit_without_at show_unit u
unit_places u =
    whole (start λ place. keep (keep (append (append (skip (plain_globals u.globals)
    (last (repeated_places proc_places 1 u.procs) λ ps e.
    keep (done (record u { at = place; procs = ps }, cc, refl))))))))

client_places : (c : Client) → Places client_without_at show_client c
client_places c =
    whole (start λ place. keep (keep (keep (keep (append (append (skip (plain_globals c.globals)
    (last (repeated_places proc_places 1 c.procs) λ ps e.
    keep (done (record c { at = place; procs = ps }, cc, refl))))))))))

judgement_places : (j : Judgement) → Places judgement_without_at show_judgement j
judgement_places j =
    whole (start λ place. keep (keep (keep (keep (keep (keep (keep (keep (keep (keep (append (append (last (rel_clause_places j.needs) λ n en.
    keep (last (rel_clause_places j.gives) λ g eg.
    last (align_places j.align) λ a ea.
    (record j { at = place; needs = n; gives = g; align = a }, cc, refl)))))))))))))))

pair_method_places : (m : ℕ × Word × Align) → Places pair_method_without_at show_pair_method m
pair_method_places m = whole (start λ place. keep (last (align_places m.2) λ a e. ((place, m.1, a), cc, refl)))

pair_places : (p : ModulePair) → Places pair_without_at show_pair p
pair_places p =
    whole (start λ place. keep (keep (keep (keep (keep (keep (keep (append (append (append (last (rel_clause_places p.coupling) λ c ec.
    keep (start λ q. last (align_places p.init.1) λ a ea.
    last (repeated_places pair_method_places 1 p.methods) λ ms ems.
    keep (done (record p { at = place; coupling = c; init = (q, a); methods = ms }, cc, refl))))))))))))))

item_places : (i : Item) → Places item_without_at show_item i
item_places (OfClass c) = whole (last (class_places c) λ y e. (OfClass y, ap OfClass e, refl))
item_places (OfInterface i) = whole (last (interface_places i) λ y e. (OfInterface y, ap OfInterface e, refl))
item_places (OfModule m) = whole (last (module_places m) λ y e. (OfModule y, ap OfModule e, refl))
item_places (OfUnit u) = whole (last (unit_places u) λ y e. (OfUnit y, ap OfUnit e, refl))
item_places (OfClient c) = whole (last (client_places c) λ y e. (OfClient y, ap OfClient e, refl))
item_places (OfJudgement j) = whole (last (judgement_places j) λ y e. (OfJudgement y, ap OfJudgement e, refl))
item_places (OfPair p) = whole (last (pair_places p) λ y e. (OfPair y, ap OfPair e, refl))

pub spelled_tokens : SpelledTokensPlaceABundle
spelled_tokens b p found s =
    let r = (repeated_places item_places 1 b.items).places found s in
    let shapes = same_shapes item_without_at IsShapedItem item_shape r.0 b.items r.1 p.shapes in
    let words = placed_said (show_tokens b) (repeated show_item 1 r.0) found r.2 p.words in
    (record { items = r.0 }, ap (λ (is : List Item). record { items = is }) r.1, record { shapes = shapes; words = words }, placed_match (show_tokens b) (repeated show_item 1 r.0) found r.2)
