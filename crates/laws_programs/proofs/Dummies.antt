-- The dummies of a table come first: as the two definitions say it.
use Rattle.std.proofs.Common.{◌≡◌, ℕ, zero, suc, false, List, [], ◌∷◌, refl}
use Rattle.f77_ast.specs.declared.symbol.Place.{Place}
use Rattle.f77_ast.specs.declared.symbol.Place.TheVariants as place
use Rattle.f77_ast.specs.Symbols.{SymbolTree}
use Rattle.laws_programs.specs.SymbolTables.Laws.{NoDummies, DummiesFirst}
use Rattle.laws_programs.specs.Effects.Tables.{is_dummy, HasNoDummy, DummiesLead}

no_dummy : (q : Place) → ((k : ℕ) → q ≡ place.Dummy k → ⊥) → is_dummy q ≡ false
no_dummy (place.Local g o) h = refl
no_dummy (place.Dummy m) h = absurd (h m refl)
no_dummy (place.Block b o) h = refl
no_dummy (place.Constant v) h = refl

none_are : (ss : List SymbolTree) → NoDummies ss → HasNoDummy ss
none_are [] h = tt
none_are (s ∷ ss) h = (no_dummy s.place h.0, none_are ss h.1)

pub they_lead : (m n : ℕ) (ss : List SymbolTree) → DummiesFirst m n ss → DummiesLead n m ss
they_lead m zero ss h = none_are ss h
they_lead m (suc n) [] h = h
they_lead m (suc n) (s ∷ ss) h = (h.0, they_lead (suc m) n ss h.1)
