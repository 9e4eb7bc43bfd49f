-- Each unit in the place of a variable with constant bounds is that of an element; and locals have units.
use Rattle.std.proofs.Common.{◌≡◌, ℕ, ℤ, ◌+◌, ◌-◌, ◌<◌, ◌≤◌, true, false, List, [], ◌∷◌, Option, Some, arith, refl, sym, ap, subst, ◌∙◌, nat_lt}
use Rattle.std.specs.Prelude.{not, nat_le}
use Rattle.std.proofs.lemmas.Bool.{and_parts, leb-true, ltb-true}
use Rattle.f77_ast.specs.Places.{Dim, Place, total_size}
use Rattle.f77_ast.specs.Calls.{in_place}
use Rattle.f77_ast.specs.declared.constant.Constant.{Constant}
use Rattle.f77_ast.specs.declared.symbol.Place.{Place as SymbolPlace}
use Rattle.f77_ast.specs.declared.symbol.Place.TheVariants as place
use Rattle.f77_ast.specs.Symbols.{BoundTree, SymbolTree}
use Rattle.f77_ast.specs.Shared.{symbol_at}
use Rattle.in_out_regions.specs.array_regions.References.{is_constant}
use Rattle.in_out_regions.specs.region_translation.Claims.{IsClosed, LastMayBeOpen}
use Rattle.laws_analyses.specs.Regions.Claims.{elements_of}
use Rattle.laws_analyses.specs.Regions.Programs.{ConstantsAre}
use Rattle.laws_analyses.specs.Regions.Settings.{is_stored}
use Rattle.laws_analyses.proofs.Regions.Outlines.{elements_are}
use Rattle.laws_marks.proofs.OutCommonUnits.{number_there}
use Rattle.laws_marks.specs.Units.{IsPassing}
use Rattle.call_graph.specs.Visible.{is_local}

pub record HasElement (p : Place) (u : ℕ) : Type 0 where
  pub phi : ℕ → ℤ
  pub there : elements_of p phi ≡ Some u

all_closed : (value : List ℕ → Option Constant) (bs : List BoundTree) (ds : List Dim) → ConstantsAre value bs ds → LastMayBeOpen ds
all_closed value [] [] h = tt
all_closed value [] (d ∷ ds) h = absurd h
all_closed value (b ∷ bs) [] h = absurd h
all_closed value (b ∷ []) (d ∷ []) h = tt
all_closed value (b ∷ []) (d ∷ (e ∷ ds)) h = absurd h.1
all_closed value (b ∷ (c ∷ bs)) (d ∷ []) h = absurd h.1
all_closed value (b ∷ (c ∷ bs)) (d ∷ (e ∷ ds)) h = (subst IsClosed (sym h.0.number) tt, all_closed value (c ∷ bs) (e ∷ ds) h.1)

pub in_place_element : (value : List ℕ → Option Constant) (bs : List BoundTree) (p : Place) (u : ℕ) → ConstantsAre value bs p.dims → p.extent ≡ total_size p.dims → in_place p u ≡ true → HasElement p u
in_place_element value bs p u constants sizes h =
    let q = and_parts (nat_le p.first u) (nat_lt u (p.first + p.extent)) h in
    let low : p.first ≤ u = leb-true p.first u q.0 in
    let high : u < p.first + p.extent = ltb-true u (p.first + p.extent) q.1 in
    let r = number_there p (u - p.first) u (all_closed value bs p.dims constants) sizes (omega (arith, low, high)) (omega (arith, low)) in
    record { phi = r.subscripts; there = elements_are p r.subscripts ∙ r.there }

-- ---- locals

local_stored : (q : SymbolPlace) → is_local q ≡ true → is_constant q ≡ false
local_stored (place.Local g o) h = refl
local_stored (place.Dummy n) h = cc
local_stored (place.Block b o) h = cc
local_stored (place.Constant c) h = cc

pub passing_stored : (ss : List SymbolTree) (n : ℕ) (p : IsPassing ss n) → is_stored (symbol_at ss n) ≡ true
passing_stored ss n p = ap is_stored p.is_symbol ∙ ap not (local_stored p.symbol.place p.local)
