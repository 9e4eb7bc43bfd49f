-- The variables of what is left of a region where another one is taken away.
use Rattle.std.proofs.Common.{ℕ, ◌≤◌, Bool, ◌&&◌, List, [], ◌∷◌, ◌++◌, length, map, Option, Some, None, arith}
use Rattle.std.specs.Prelude.{option_to_list}
use Rattle.std.specs.List.{AllByRecursion}
use Rattle.affine_systems.specs.declared.row.Var.{Var}
use Rattle.affine_systems.specs.declared.row.Term.{Term}
use Rattle.affine_systems.specs.declared.row.Row.{Row}
use Rattle.affine_systems.specs.declared.row.System.{System}
use Rattle.affine_systems.specs.Terms.{negated_terms}
use Rattle.affine_systems.specs.Rows.{system}
use Rattle.affine_systems.specs.Calls.{push_row}
use Rattle.affine_systems.proofs.AscendLaws.{ascends-negated}
use Rattle.affine_systems.proofs.Basics.{if_cases}
use Rattle.hull_projection.specs.Refute.{refuted, above, below, negations}
use Rattle.hull_projection.specs.Clean.{clean}
use Rattle.hull_projection.specs.Minus.{all_negations, parts, apart}
use Rattle.f77_ast.specs.declared.variable.Variable.{Variable}
use Rattle.in_out_regions.specs.region_sets.declared.region.Region.{Region}
use Rattle.in_out_regions.specs.region_sets.Regions.{remade}
use Rattle.in_out_regions.specs.region_sets.Trim.{trim}
use Rattle.in_out_regions.specs.region_sets.Subtract.{are_places, less_all, unless_empty, all_left, all_apart, subtract}
use Rattle.in_out_regions.proofs.RegionSets.TrimLaws.{trim_few}
use Rattle.in_out_regions.proofs.RegionSets.KeptLaws.{less_are}
use Rattle.laws_lines.specs.Variables.{EachVar}
use Rattle.laws_lines.proofs.RowVars.{Given}
use Rattle.laws_lines.proofs.SystemVars.{IsNeat, AreGiven, all-append, given_again, tidy_neat, clean_neat}
use Rattle.laws_lines.specs.Regions.Places.{IsPlaceOf}
use Rattle.laws_lines.proofs.Regions.RegionVars.{trim_neat, IsFine, AreFine}

module _ (such : Var → Type 0) where
  -- ---- negations of rows

  each_negated : (ts : List Term) → EachVar such ts → EachVar such (negated_terms ts)
  each_negated [] h = tt
  each_negated (t ∷ ts) h = (h.0, each_negated ts h.1)

  above_given : (r : Row) → Given such r → Given such (above r)
  above_given r h = (ascends-negated r.terms h.0, each_negated r.terms h.1)

  negations_given : (r : Row) → Given such r → AreGiven such (negations r)
  negations_given r h = if_cases (AreGiven such) r.equal (above r ∷ (below r ∷ [])) (above r ∷ []) (λ e. (above_given r h, (h, tt))) (λ e. (above_given r h, tt))

  all_given : (rs : List Row) → AreGiven such rs → AreGiven such (all_negations rs)
  all_given [] h = tt
  all_given (r ∷ rs) h = all-append (Given such) (negations r) (all_negations rs) (negations_given r h.0) (all_given rs h.1)

  -- ---- the parts of a system outside another

  abbrev pub AreNeat : List System → Type 0
  AreNeat ss = AllByRecursion (IsNeat such) ss

  part_neat : (a : System) (n : Row) → IsNeat such a → Given such n → IsNeat such (push_row a n)
  part_neat a n h k = tidy_neat such (system (a.rows ++ n ∷ []) a.weak) (all-append (Given such) a.rows (n ∷ []) (given_again such a h) (k, tt))

  parts_neat : (a : System) (ns : List Row) → IsNeat such a → AreGiven such ns → AreNeat (parts a ns)
  parts_neat a [] h k = tt
  parts_neat a (n ∷ ns) h k =
      let others = parts_neat a ns h k.1 in
      if_cases AreNeat (refuted (push_row a n).rows) (parts a ns) (push_row a n ∷ parts a ns) (λ e. others) (λ e. (part_neat a n h k.0, others))

  cleaned_neat : (ss : List System) → AreNeat ss → AreNeat (map clean ss)
  cleaned_neat [] h = tt
  cleaned_neat (s ∷ ss) h = (clean_neat such s h.0, cleaned_neat ss h.1)

  pub apart_neat : (a b : System) → IsNeat such a → IsNeat such b → AreNeat (apart a b)
  apart_neat a b h k = cleaned_neat (parts a (all_negations b.rows)) (parts_neat a (all_negations b.rows) h (all_given b.rows (given_again such b k)))

-- ---- regions

module _ (N : Variable → Type 0) (ok : ℕ → Type 0) where
  abbrev P : Var → Type 0
  P = IsPlaceOf ok

  -- none, or such a region
  abbrev pub MaybeFine : Option Region → Type 0
  MaybeFine None = Unit {0}
  MaybeFine (Some r) = IsFine N ok r

  pub listed_fine : (o : Option Region) → MaybeFine o → AreFine N ok (option_to_list o)
  listed_fine None h = tt
  listed_fine (Some r) h = (h, tt)

  -- where something is left
  left_fine : (r : Region) (e : Bool) (ss : List System) → N r.variable → length ss ≤ 4 → AllByRecursion (IsNeat P) ss → MaybeFine (unless_empty r e ss)
  left_fine r e [] n l h = tt
  left_fine r e (s ∷ ss) n l h = (n, ((omega arith, l), h))

  pub subtract_fine : (a b : Region) → IsFine N ok a → IsFine N ok b → MaybeFine (subtract a b)
  subtract_fine a b h k =
      let ss = less_all a.pieces b.pieces in
      if_cases MaybeFine (b.exact && are_places b.pieces) (all_left a ss) (Some (remade a (a.exact && all_apart a.pieces b.pieces) a.pieces))
      (λ e. left_fine a (a.exact && (trim ss).exact) (trim ss).pieces h.0 (trim_few ss) (trim_neat P ss (less_are (IsNeat P) (apart_neat P) a.pieces b.pieces h.1.1 k.1.1))) (λ e. h)
