-- What is known of items.
use Rattle.std.proofs.Common.{◌≡◌, true, List, [], ◌∷◌, ◌++◌, map, Option, Some, None, option_map, refl, sym, ap, ◌∙◌, subst, append_assoc, append-nil}
use Rattle.std.proofs.lemmas.List.{map-append}
use Rattle.std.proofs.lemmas.Simd.{map-map}
use Rattle.rel_lang.specs.Syntax as syntax
use Rattle.rel_lang.specs.Syntax.{OfClass, OfInterface, OfModule, OfUnit, OfClient, OfJudgement, OfPair}
use Rattle.rel_lang.specs.Syntax.{Word}
use Rattle.rel_lang.specs.State.{Owner, ByQuantifier, ClassField, class_items, fields_of}
use Rattle.rel_lang.specs.Scope.{declared}
use Rattle.rel_lang.specs.Lookup.{interfaces_of, units_of, modules_of, judgements_of}
use Rattle.rel_lang.specs.Typed.{Signature}
use Rattle.rel_lang.specs.View.{type_of, decl_of, class_of}
use Rattle.rel_lang.specs.declared.bundle.Class.{Class}
use Rattle.rel_flaws.specs.CodeView.{callees_seen}
use Rattle.rel_flaws.specs.View.{variables_seen}
use Rattle.rel_flaws.specs.declared.code.Callee.{Callee}
use Rattle.rel_flaws.specs.declared.scope.Seen.{Seen}
use Rattle.rel_types.specs.Called.{SameCallees}
use Rattle.rel_types.specs.Lookups.{SameLookups}
use Rattle.rel_types.specs.Known.{BothAre}
use Rattle.rel_types.specs.ByName.{class_names}
use Rattle.rel_types.proofs.Declaring.{same_then, same_declared}

-- ---- globals and callees

-- what is added to nothing, whoever owns it
pub added_to_none : (o : Owner) (before after : List (Word × Seen)) (ds : List syntax.Decl) → before ≡ []
    → SameLookups (variables_seen after) (variables_seen before ++ declared ByQuantifier true ds) → SameLookups (variables_seen after) (declared o true ds)
added_to_none o before after ds e h =
    same_then (variables_seen after) (declared ByQuantifier true ds) (declared o true ds)
    (subst (λ es. SameLookups (variables_seen after) (variables_seen es ++ declared ByQuantifier true ds)) e h) (same_declared ByQuantifier o true ds)

pub called_from_none : (before after : List (Word × Callee)) (qs : List Signature) → before ≡ []
    → SameCallees (callees_seen after) (callees_seen before ++ qs) → SameCallees (callees_seen after) qs
called_from_none before after qs e h = subst (λ es. SameCallees (callees_seen after) (callees_seen es ++ qs)) e h

-- ---- bodies

pub both_mapped : {A B V : Type 0} (f : A → B) (R : B → V → Type 0) (o : Option A) (p : Option V) → BothAre (λ a v. R (f a) v) o p → BothAre R (option_map f o) p
both_mapped f R None None h = h
both_mapped f R (Some a) (Some v) h = h
both_mapped f R None (Some v) h = h
both_mapped f R (Some a) None h = h

-- ---- the items of one kind

pub interfaces_both : (is js : List syntax.Item) → interfaces_of (is ++ js) ≡ interfaces_of is ++ interfaces_of js
interfaces_both [] js = refl
interfaces_both (OfClass c ∷ is) js = interfaces_both is js
interfaces_both (OfInterface i ∷ is) js = ap (λ l. i ∷ l) (interfaces_both is js)
interfaces_both (OfModule m ∷ is) js = interfaces_both is js
interfaces_both (OfUnit u ∷ is) js = interfaces_both is js
interfaces_both (OfClient c ∷ is) js = interfaces_both is js
interfaces_both (OfJudgement j ∷ is) js = interfaces_both is js
interfaces_both (OfPair p ∷ is) js = interfaces_both is js

pub units_both : (is js : List syntax.Item) → units_of (is ++ js) ≡ units_of is ++ units_of js
units_both [] js = refl
units_both (OfClass c ∷ is) js = units_both is js
units_both (OfInterface i ∷ is) js = units_both is js
units_both (OfModule m ∷ is) js = units_both is js
units_both (OfUnit u ∷ is) js = ap (λ l. u ∷ l) (units_both is js)
units_both (OfClient c ∷ is) js = units_both is js
units_both (OfJudgement j ∷ is) js = units_both is js
units_both (OfPair p ∷ is) js = units_both is js

pub modules_both : (is js : List syntax.Item) → modules_of (is ++ js) ≡ modules_of is ++ modules_of js
modules_both [] js = refl
modules_both (OfClass c ∷ is) js = modules_both is js
modules_both (OfInterface i ∷ is) js = modules_both is js
modules_both (OfModule m ∷ is) js = ap (λ l. m ∷ l) (modules_both is js)
modules_both (OfUnit u ∷ is) js = modules_both is js
modules_both (OfClient c ∷ is) js = modules_both is js
modules_both (OfJudgement j ∷ is) js = modules_both is js
modules_both (OfPair p ∷ is) js = modules_both is js

pub judgements_both : (is js : List syntax.Item) → judgements_of (is ++ js) ≡ judgements_of is ++ judgements_of js
judgements_both [] js = refl
judgements_both (OfClass c ∷ is) js = judgements_both is js
judgements_both (OfInterface i ∷ is) js = judgements_both is js
judgements_both (OfModule m ∷ is) js = judgements_both is js
judgements_both (OfUnit u ∷ is) js = judgements_both is js
judgements_both (OfClient c ∷ is) js = judgements_both is js
judgements_both (OfJudgement j ∷ is) js = ap (λ l. j ∷ l) (judgements_both is js)
judgements_both (OfPair p ∷ is) js = judgements_both is js

pub classes_both : (is js : List syntax.Item) → class_items (is ++ js) ≡ class_items is ++ class_items js
classes_both [] js = refl
classes_both (OfClass c ∷ is) js = ap (λ l. c ∷ l) (classes_both is js)
classes_both (OfInterface i ∷ is) js = classes_both is js
classes_both (OfModule m ∷ is) js = classes_both is js
classes_both (OfUnit u ∷ is) js = classes_both is js
classes_both (OfClient c ∷ is) js = classes_both is js
classes_both (OfJudgement j ∷ is) js = classes_both is js
classes_both (OfPair p ∷ is) js = classes_both is js

pub class_names_both : (is js : List syntax.Item) → class_names (is ++ js) ≡ class_names is ++ class_names js
class_names_both is js = ap (map _) (classes_both is js) ∙ map-append _ (class_items is) (class_items js)

abbrev of_class : syntax.ClassItem → List ClassField
of_class c = map (λ d. record { name = d.name; class = c.name; ty = d.ty }) c.fields

fields_both : (cs ds : List syntax.ClassItem) → fields_of (cs ++ ds) ≡ fields_of cs ++ fields_of ds
fields_both [] ds = refl
fields_both (c ∷ cs) ds = ap (λ l. of_class c ++ l) (fields_both cs ds) ∙ sym (append_assoc (of_class c) (fields_of cs) (fields_of ds))

pub class_fields_both : (is js : List syntax.Item) → fields_of (class_items (is ++ js)) ≡ fields_of (class_items is) ++ fields_of (class_items js)
class_fields_both is js = ap fields_of (classes_both is js) ∙ fields_both (class_items is) (class_items js)

-- the fields of one class
pub fields_of_one : (c : Class) → map (λ d. record { name = d.name; class = c.name; ty = type_of d.ty }) c.fields ≡ fields_of (class_of c ∷ [])
fields_of_one c = sym (append-nil _ ∙ map-map _ decl_of c.fields)
