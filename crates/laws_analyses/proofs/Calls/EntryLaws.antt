-- What holds at one of the CALLs of a module, or of the values from DATA, holds as its entry says.
use Rattle.std.proofs.Common.{◌≡◌, ℕ, suc, List, [], ◌∷◌, map, Some, Bool, true, false, refl, ◌∙◌, arith, ℤ, inl, inr}
use Rattle.std.proofs.lemmas.Int.{ints}
use Rattle.std.proofs.lemmas.Bool.{and_parts}
use Rattle.affine_systems.specs.declared.row.Var.TheVariants.{Cell}
use Rattle.affine_systems.specs.declared.row.System.{System}
use Rattle.affine_systems.specs.Points.{Point, HoldsAll}
use Rattle.affine_systems.proofs.CallLaws.{append_all}
use Rattle.hull_projection.specs.Hull.{hull}
use Rattle.hull_projection.proofs.HullLaws.{hull_holds}
use Rattle.f77_ast.specs.declared.symbol.InitialRun.{InitialRun}
use Rattle.f77_ast.specs.Symbols.{SymbolTree}
use Rattle.f77_ast.specs.Shared.{symbol_at}
use Rattle.preconditions.proofs.TransformerAlgebra.KeepLaws.{of_rows_holds}
use Rattle.affine_forms.specs.Scalars.{is_cell}
use Rattle.preconditions.specs.transformer_algebra.Claims.{Scene, AtStart, HoldsAt}
use Rattle.preconditions.specs.transformer_algebra.Laws.{In, here, there}
use Rattle.preconditions.specs.call_translation.Scopes.{ScopeTree}
use Rattle.preconditions.specs.call_translation.Sites.{HoldingSite}
use Rattle.preconditions.specs.call_translation.SiteEntry.{site_entry}
use Rattle.preconditions.specs.transformers.Modules.{is_visible_to_callers}
use Rattle.preconditions.specs.Statement.{hull_from}
use Rattle.preconditions.specs.Entry.{begins_with, initial_row, initial_from, main_entry, sites_entry}
use Rattle.laws_analyses.specs.Calls.Scenes.{outside}
use Rattle.laws_analyses.specs.Calls.Entries.{BeginsWithData}
use Rattle.laws_analyses.proofs.Calls.TableLaws.{IsRest, whole_rest, next_rest, first_rest}

-- ---- all CALLs

hull_first : (s : System) (ts : List System) (p : Point) → HoldsAll p s.rows → HoldsAll p (hull_from s ts).rows
hull_first s [] p h = h
hull_first s (t ∷ ts) p h = hull_first (hull s t) ts p (hull_holds s t p (inl h))

hull_among : (f : HoldingSite → System) (s : System) (c : HoldingSite) (cs : List HoldingSite) (p : Point) → In c cs → HoldsAll p (f c).rows → HoldsAll p (hull_from s (map f cs)).rows
hull_among f s c [] p i h = elim i [ ]
hull_among f s c (d ∷ cs) p here h = hull_first (hull s (f c)) (map f cs) p (hull_holds s (f c) p (inr h))
hull_among f s c (d ∷ cs) p (there i) h = hull_among f (hull s (f d)) c cs p i h

sites_among : (s : ScopeTree) (c : HoldingSite) (cs : List HoldingSite) (p : Point) → In c cs → HoldsAll p (site_entry s c).rows → HoldsAll p (sites_entry s cs).rows
sites_among s c [] p i h = elim i [ ]
sites_among s c (d ∷ cs) p here h = hull_first (site_entry s c) (map (site_entry s) cs) p h
sites_among s c (d ∷ cs) p (there i) h = hull_among (site_entry s) (site_entry s d) c cs p i h

pub hold_sites : (s : ScopeTree) (c : HoldingSite) (cs : List HoldingSite) (m : Scene) (y : ℕ → ℤ) → In c cs → HoldsAt m (site_entry s c) y → HoldsAt m (sites_entry s cs) y
hold_sites s c cs m y i h p st = sites_among s c cs p i (h p st)

-- ---- the main program

module _ (s : ScopeTree) (m : Scene) (x : ℕ → ℤ) (d : BeginsWithData s m x) (p : Point) (st : AtStart m x p) where
  begins_hold : (n : ℕ) (v : SymbolTree) (rs : List InitialRun) → is_cell s.tracked n ≡ true → symbol_at s.symbols n ≡ Some v → v.initial ≡ rs → HoldsAll p (begins_with n rs)
  begins_hold n v [] t e f = tt
  begins_hold n v (r ∷ rs) t e f =
      let g = d n v r rs t e f in
      let i : p (Cell n) ≡ r.value = st n g.0 ∙ g.1 in
      (omega (arith, ints, i), tt)

  initial_holds : (n : ℕ) (b : Bool) (v : SymbolTree) → is_cell s.tracked n ≡ b → symbol_at s.symbols n ≡ Some v → HoldsAll p (initial_row n b v)
  initial_holds n true v t e = begins_hold n v v.initial t e refl
  initial_holds n false v t e = tt

  initial_all : (n : ℕ) (ss : List SymbolTree) → IsRest n ss s.symbols → HoldsAll p (initial_from s.tracked n ss)
  initial_all n [] e = tt
  initial_all n (v ∷ ss) e =
      (append_all p (initial_row n (is_cell s.tracked n) v) (initial_from s.tracked (suc n) ss)).0
      (initial_holds n (is_cell s.tracked n) v refl (first_rest n v ss s.symbols e), initial_all (suc n) ss (next_rest n v ss s.symbols e))

pub holds_main : (s : ScopeTree) (m : Scene) (x : ℕ → ℤ) → BeginsWithData s m x → HoldsAt m (main_entry s) x
holds_main s m x d p st = of_rows_holds (initial_from s.tracked 1 s.symbols) p (initial_all s m x d p st 1 s.symbols (whole_rest s.symbols))

-- ---- inside and outside

pub holds_inside : (ss : List SymbolTree) (m : Scene) (t : System) (x : ℕ → ℤ) → HoldsAt (outside ss m) t x → HoldsAt m t x
holds_inside ss m t x h p st = h p (λ c e. st c (and_parts (m.tracked c) (is_visible_to_callers ss c) e).0)
