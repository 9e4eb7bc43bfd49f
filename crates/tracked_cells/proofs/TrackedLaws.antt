-- What is known of a unit that is tracked.
use Rattle.std.proofs.Common.{◌≡◌, ℕ, zero, suc, Bool, true, false, not, ◌&&◌, ◌||◌, List, [], ◌∷◌, Some, refl, sym, subst}
use Rattle.std.specs.Prelude.{nat_eq, bytes_eq, slice_get, filter, cond}
use Rattle.std.specs.List.{list_any}
use Rattle.std.specs.Cmp.Lexicographic.{bytes_decides}
use Rattle.std.proofs.lemmas.Bool.{eqb-true, and_parts as and-true, or_parts as or-false}
use Rattle.f77_ast.specs.DeclTrees.{ParsedTree}
use Rattle.f77_ast.specs.declared.variable.Unit.{Unit as BlockUnit}
use Rattle.f77_ast.specs.Symbols.{SymbolTree}
use Rattle.f77_ast.specs.declared.symbol.Place.{Place}
use Rattle.f77_ast.specs.declared.symbol.Place.TheVariants.{Block}
use Rattle.tracked_cells.specs.Equivalences.{equivalenced_names}
use Rattle.tracked_cells.specs.Standing.{is_plain, stands_at, untracks_at, two_at, untracks}
use Rattle.tracked_cells.specs.Scalars.{all_scalars}
use Rattle.tracked_cells.specs.Untracked.{some_untracks, equivalenced_names_of_all, begin_of}
use Rattle.tracked_cells.specs.Tracked.{is_unit}
use Rattle.tracked_cells.specs.Laws.{among, TrackedUnitsArePlain}
use Rattle.fx_lists.proofs.Booleans.{plain_from}

-- what holds of a unit holds of the one that is it
pub of_unit : (f : Place → Bool) (u v : BlockUnit) → is_unit u.block u.offset v ≡ true → f (begin_of v) ≡ false → f (begin_of u) ≡ false
of_unit f u v e h =
    let parts = and-true (bytes_eq u.block v.block) (nat_eq u.offset v.offset) e in
    let b : u.block ≡ v.block = (bytes_decides u.block v.block).0 parts.0 in
    let o : u.offset ≡ v.offset = eqb-true u.offset v.offset parts.1 in
    subst (λ x. f (Block x u.offset) ≡ false) (sym b) (subst (λ k. f (Block v.block k) ≡ false) (sym o) h)

-- a unit of a list that a test leaves out fails the test
pub left_out : (f : Place → Bool) (u : BlockUnit) (us : List BlockUnit) → among u us ≡ true → among u (filter (λ v. f (begin_of v)) us) ≡ false → f (begin_of u) ≡ false
left_out f u [] e h = cc
left_out f u (v ∷ us) e h = go (is_unit u.block u.offset v) (f (begin_of v)) refl refl e h (left_out f u us)
  where
    go : (b d : Bool) → is_unit u.block u.offset v ≡ b → f (begin_of v) ≡ d → (b || among u us) ≡ true → among u (cond d (v ∷ filter (λ w. f (begin_of w)) us) (filter (λ w. f (begin_of w)) us)) ≡ false → (among u us ≡ true → among u (filter (λ w. f (begin_of w)) us) ≡ false → f (begin_of u) ≡ false) → f (begin_of u) ≡ false
    go true true is t e h ih =
        let z = (or-false (is_unit u.block u.offset v) (among u (filter (λ w. f (begin_of w)) us)) h).0 in cc
    go true false is t e h ih = of_unit f u v is t
    go false true is t e h ih = ih e (or-false (is_unit u.block u.offset v) (among u (filter (λ w. f (begin_of w)) us)) h).1
    go false false is t e h ih = ih e h

-- no module untracks it
pub trackable : (ps : List ParsedTree) (sss : List (List SymbolTree)) (at : Place) → some_untracks (equivalenced_names_of_all ps) sss at ≡ false → (k : ℕ) (p : ParsedTree) (ss : List SymbolTree) → slice_get ps k ≡ Some p → slice_get sss k ≡ Some ss → untracks (equivalenced_names p.module_read) ss at ≡ false
trackable [] sss at e k p ss a b = cc
trackable (q ∷ ps) [] at e k p ss a b = cc
trackable (q ∷ ps) (ts ∷ sss) at e zero p ss a b =
    let parts = or-false (untracks (equivalenced_names q.module_read) ts at) (some_untracks (equivalenced_names_of_all ps) sss at) e in
    let x : q ≡ p = cc in
    let y : ts ≡ ss = cc in
    subst (λ (z : ParsedTree). untracks (equivalenced_names z.module_read) ss at ≡ false) x
    (subst (λ (z : List SymbolTree). untracks (equivalenced_names q.module_read) z at ≡ false) y parts.0)
trackable (q ∷ ps) (ts ∷ sss) at e (suc k) p ss a b =
    trackable ps sss at (or-false (untracks (equivalenced_names q.module_read) ts at) (some_untracks (equivalenced_names_of_all ps) sss at) e).1 k p ss a b

pub none_of : (f : SymbolTree → Bool) (ss : List SymbolTree) → list_any f ss ≡ false → (n : ℕ) (s : SymbolTree) → slice_get ss n ≡ Some s → f s ≡ false
none_of f [] e n s a = cc
none_of f (t ∷ ss) e zero s a =
    let x : t ≡ s = cc in subst (λ (z : SymbolTree). f z ≡ false) x (or-false (f t) (list_any f ss) e).0
none_of f (t ∷ ss) e (suc n) s a = none_of f ss (or-false (f t) (list_any f ss) e).1 n s a

pub are_plain : TrackedUnitsArePlain
are_plain ps sss u there out k p ss a b n s at stands =
    let names = equivalenced_names p.module_read in
    let calm : some_untracks (equivalenced_names_of_all ps) sss (begin_of u) ≡ false = left_out (λ v. some_untracks (equivalenced_names_of_all ps) sss v) u (all_scalars sss []) there out in
    let alone : untracks names ss (begin_of u) ≡ false = trackable ps sss (begin_of u) calm k p ss a b in
    let none = (or-false (list_any (untracks_at names ss (begin_of u)) ss) (two_at ss (begin_of u) ss) alone).0 in
    plain_from (stands_at ss (begin_of u) s) (is_plain names s) (none_of (untracks_at names ss (begin_of u)) ss none n s at) stands
