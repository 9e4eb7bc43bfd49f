-- What tables give of the modules of a program: variables have types, the units of expressions are none of locals, and what a module loses becomes undefined at
-- its end.
use Rattle.std.proofs.Common.{◌≡◌, ℕ, zero, suc, ◌+◌, List, [], ◌∷◌, ◌++◌, ◌||◌, Option, Some, None, Bool, true, false, refl, sym, ap, ◌∙◌, subst, arith, nat_eq, true≢false}
use Rattle.std.specs.Prelude.{if◌then◌else◌, slice_get}
use Rattle.std.specs.List.{list_any}
use Rattle.std.proofs.lemmas.Bool.Decides.{nat_tests}
use Rattle.f77_ast.specs.declared.decl.Scalar.{Scalar}
use Rattle.f77_ast.specs.declared.decl.Scalar.TheVariants as scalar
use Rattle.f77_ast.specs.DeclTrees.{ParsedTree}
use Rattle.f77_ast.specs.Places.{Variable, Function}
use Rattle.f77_ast.specs.declared.symbol.Place.{Place}
use Rattle.f77_ast.specs.declared.symbol.Place.TheVariants as place
use Rattle.f77_ast.specs.Symbols.{SymbolTree, number_from}
use Rattle.f77_ast.specs.Shared.{symbol_at}
use Rattle.call_graph.specs.declared.graph.Graph.{Graph}
use Rattle.f77_meaning.specs.Areas.{group, own, Numbering, unit_at}
use Rattle.f77_meaning.specs.Modules.{Known, known_of, tag_of, meant_by, is_function, meant_at, meant_in, symbol_names, names, fixed_place, fixed_maybe, fixed, as_dummy, dummies_from, all_lost}
use Rattle.f77_meaning.specs.Linked.{numbering, routine}
use Rattle.f77_meaning.proofs.ModuleLaws.{has_room}
use Rattle.f77_meaning.proofs.UnitLaws.{temporaries_are_recognisable}
use Rattle.laws_programs.specs.Storage.Programs.{IsLinked, IsModule, known}
use Rattle.laws_analyses.specs.Regions.Entries.{IsLost}
use Rattle.laws_marks.proofs.InFirsts.{not_so}
use Rattle.laws_marks.proofs.InLayouts.{in_at, lost_of, no_own, one_named}
use Rattle.preconditions.specs.transformer_algebra.Laws.{In, here, there}
use Rattle.laws_marks.specs.OutPrograms.{is_some_lost}
use Rattle.laws_interleavings.specs.Typed.{HasTag, DummiesTagged, IsNoDummy, IsTagged}
use Rattle.laws_marks.proofs.OutCalleeLinks.{stands}
use Rattle.fx_lists.proofs.Numbers.{same_is as nat_same}

scalar_tag : (t : Scalar) → HasTag (tag_of t)
scalar_tag scalar.Int = refl
scalar_tag scalar.Log = refl

dummies_tagged : (n : ℕ) (ss : List SymbolTree) → DummiesTagged (dummies_from n ss)
dummies_tagged n [] = tt
dummies_tagged n (s ∷ ss) = go s.place (dummies_tagged (suc n) ss)
  where
    go : (p : Place) → DummiesTagged (dummies_from (suc n) ss) → DummiesTagged (as_dummy n s p ++ dummies_from (suc n) ss)
    go (place.Local g o) ih = ih
    go (place.Dummy k) ih = (scalar_tag s.scalar, ih)
    go (place.Block b o) ih = ih
    go (place.Constant v) ih = ih

-- a dummy is one of the dummies
not_itself : (n m : ℕ) → nat_eq (n + 0) m ≡ false → n ≡ m → ⊥
not_itself n m h e = grind (arith, nat_tests)

is_dummy : (n : ℕ) (ss : List SymbolTree) (i : ℕ) (s : SymbolTree) (k : ℕ) → slice_get ss i ≡ Some s → s.place ≡ place.Dummy k → IsNoDummy (dummies_from n ss) (n + i) → ⊥
is_dummy n [] i s k e f h = cc
is_dummy n (t ∷ ss) zero s k e f h = go t.place (ap (λ (x : SymbolTree). x.place) same ∙ f) h
  where
    same : t ≡ s
    same = cc

    go : (p : Place) → p ≡ place.Dummy k → IsNoDummy (as_dummy n t p ++ dummies_from (suc n) ss) (n + zero) → ⊥
    go (place.Local g o) q h = cc
    go (place.Dummy d) q h = not_itself n n h.0 refl
    go (place.Block b o) q h = cc
    go (place.Constant v) q h = cc
is_dummy n (t ∷ ss) (suc i) s k e f h = go t.place h (λ z. is_dummy (suc n) ss i s k e f (subst (λ v. IsNoDummy (dummies_from (suc n) ss) v) (sym next) z))
  where
    next : suc n + i ≡ n + suc i
    next = omega arith

    go : (p : Place) → IsNoDummy (as_dummy n t p ++ dummies_from (suc n) ss) (n + suc i) → (IsNoDummy (dummies_from (suc n) ss) (n + suc i) → ⊥) → ⊥
    go (place.Local g o) z ih = ih z
    go (place.Dummy d) z ih = ih z.1
    go (place.Block b o) z ih = ih z
    go (place.Constant v) z ih = ih z

symbol_dummy : (ss : List SymbolTree) (v : ℕ) (s : SymbolTree) (k : ℕ) → symbol_at ss v ≡ Some s → s.place ≡ place.Dummy k → IsNoDummy (dummies_from 1 ss) v → ⊥
symbol_dummy ss v s k e f h = (let w = stands ss v s e in is_dummy 1 ss w.before s k w.is_there f (subst (λ j. IsNoDummy (dummies_from 1 ss) j) (w.number ∙ one w.before) h))
  where
    one : (n : ℕ) → suc n ≡ 1 + n
    one n = omega arith

module _ (N : Numbering) (k : Known) where
  fixed_tagged : (x : List ℕ) (v : ℕ) → names k.symbols x ≡ Variable v → IsNoDummy (dummies_from 1 k.symbols) v → HasTag (fixed N k v).tag
  fixed_tagged x v e n = by_number (number_from 1 (symbol_names k.symbols) x) e
    where
      by_place : (s : SymbolTree) → symbol_at k.symbols v ≡ Some s → (p : Place) → s.place ≡ p → (m : ℕ) → meant_by s.scalar m p ≡ Variable v → HasTag (fixed_place N k.read.name k.symbols s p).tag
      by_place s q (place.Local g o) r m f = scalar_tag s.scalar
      by_place s q (place.Dummy d) r m f = absurd (symbol_dummy k.symbols v s d q r n)
      by_place s q (place.Block b o) r m f = scalar_tag s.scalar
      by_place s q (place.Constant c) r m f = cc

      number_is : (s : SymbolTree) (p : Place) (m : ℕ) → meant_by s.scalar m p ≡ Variable v → m ≡ v
      number_is s (place.Local g o) m f = cc
      number_is s (place.Dummy d) m f = cc
      number_is s (place.Block b o) m f = cc
      number_is s (place.Constant c) m f = cc

      by_symbol : (m : ℕ) (o : Option SymbolTree) → symbol_at k.symbols m ≡ o → meant_at m o ≡ Variable v → HasTag (fixed N k v).tag
      by_symbol m None q f = cc
      by_symbol m (Some s) q f = go (is_function s) f
        where
          go : (b : Bool) → (if b then Function else meant_by s.scalar m s.place) ≡ Variable v → HasTag (fixed N k v).tag
          go true h = cc
          go false h =
              let here : symbol_at k.symbols v ≡ Some s = subst (λ j. symbol_at k.symbols j ≡ Some s) (number_is s s.place m h) q in
              subst (λ (o : Option SymbolTree). HasTag (fixed_maybe N k.read.name k.symbols o).tag) (sym here) (by_place s here s.place refl m h)

      by_number : (o : Option ℕ) → meant_in k.symbols o ≡ Variable v → HasTag (fixed N k v).tag
      by_number None f = cc
      by_number (Some m) f = by_symbol m (symbol_at k.symbols m) refl f

pub routine_tagged : (ks : List Known) (g : Graph) (k : Known) → IsTagged (routine ks g k)
routine_tagged ks g k = record { dummies = dummies_tagged 1 k.symbols; fixed = fixed_tagged (numbering ks g) k }

-- ---- locals that are not saved

one_of : (f : Known → Bool) (ks : List Known) → list_any f ks ≡ true → (k : Known) × In k ks × (f k ≡ true)
one_of f [] h = cc
one_of f (k ∷ ks) h = go (f k) refl h (λ i. one_of f ks i)
  where
    go : (b : Bool) → f k ≡ b → (b || list_any f ks) ≡ true → (list_any f ks ≡ true → (q : Known) × In q ks × (f q ≡ true)) → (q : Known) × In q (k ∷ ks) × (f q ≡ true)
    go true e i ih = (k, here, e)
    go false e i ih = (let r = ih i in (r.0, there r.1, r.2))

unit_in_list : (us : List ℕ) (u : ℕ) → list_any (λ v. nat_eq v u) us ≡ true → In u us
unit_in_list [] u h = cc
unit_in_list (v ∷ us) u h = go (nat_eq v u) refl h (λ i. unit_in_list us u i)
  where
    go : (b : Bool) → nat_eq v u ≡ b → (b || list_any (λ w. nat_eq w u) us) ≡ true → (list_any (λ w. nat_eq w u) us ≡ true → In u us) → In u (v ∷ us)
    go true e i ih = subst (λ w. In u (w ∷ us)) (sym (nat_same v u e)) here
    go false e i ih = there (ih i)

module _ (ps : List ParsedTree) (sss : List (List SymbolTree)) (g : Graph) (l : IsLinked ps sss g) where
  abbrev ks : List Known
  ks = known_of ps sss

  -- a unit of an expression that is an actual is none of them
  pub own_kept : (m : List ℕ) (n i : ℕ) → is_some_lost ks g (unit_at (numbering ks g) (own m n i) 0) ≡ false
  own_kept m n i = not_so (is_some_lost ks g (unit_at (numbering ks g) (own m n i) 0)) lost
    where
      lost : is_some_lost ks g (unit_at (numbering ks g) (own m n i) 0) ≡ true → ⊥
      lost h =
          let u = unit_at (numbering ks g) (own m n i) 0 in
          let r = one_of (λ k. list_any (λ v. nat_eq v u) (all_lost (numbering ks g) k.read.name k.symbols k.symbols)) ks h in
          let t = lost_of ps sss g l r.0.read.name u (record { known = r.0; is_one = r.1; named = refl; lost = r.2 }) in
          true≢false (sym (temporaries_are_recognisable (numbering ks g) (own m n i) 0 (has_room ks)) ∙ no_own ps sss g l (group r.0.read.name t.storage) u t.unit refl)

  -- what a module loses is among its locals
  pub forgets : (i : ℕ) (p : ParsedTree) (ss : List SymbolTree) → IsModule ps sss i p ss → (u : ℕ) → IsLost ks g p.module_read.name u → In u (routine ks g (known p ss)).locals
  forgets i p ss m u h =
      let w = in_at ks h.known h.is_one in
      let same : h.known ≡ known p ss = one_named ps sss g l i p ss m w.0 h.known w.1 h.named in
      unit_in_list (routine ks g (known p ss)).locals u (subst (λ (k : Known). list_any (λ v. nat_eq v u) (all_lost (numbering ks g) k.read.name k.symbols k.symbols) ≡ true) same h.lost)
