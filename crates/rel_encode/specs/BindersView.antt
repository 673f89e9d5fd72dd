-- What the quantifiers of the code stand for.
use Rattle.std.specs.Prelude.{List, [], ◌∷◌}
use Rattle.rel_encode.specs.Binders.{Binding, OfLeft, OfRight, OfBijection}
use Rattle.rel_encode.specs.Places as places
use Rattle.rel_encode.specs.declared.binders.Binder as B
use Rattle.rel_encode.specs.declared.binders.Binder.TheVariants as BV
use Rattle.rel_encode.specs.declared.binders.Found as F
use Rattle.rel_encode.specs.declared.binders.Found.TheVariants as FV
use Rattle.rel_encode.specs.declared.binders.Binders.{Binders, fold-Binders}
use Rattle.rel_encode.specs.declared.binders.Binders.TheOpen.{Binders-F}

abbrev pub binding_of : B.Binder → Binding
binding_of (BV.Left x c) = OfLeft x.now c.now
binding_of (BV.Right x c) = OfRight x.now c.now
binding_of BV.Bijection = OfBijection

abbrev pub binders_step : Binders-F (List Binding) → List Binding
binders_step Binders-F.Outside = []
binders_step (Binders-F.Under b outer) = binding_of b ∷ outer.now

abbrev pub binders_of : Binders → List Binding
binders_of = fold-Binders (List Binding) binders_step

abbrev pub found_of : F.Found → places.Found
found_of (FV.Inside n) = places.Inside n
found_of (FV.Outside n) = places.Outside n
