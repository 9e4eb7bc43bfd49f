-- The memo cells of a row: one for each kind.
use Rattle.std.proofs.Common.{◌≡◌, ◌<◌, ℕ, zero, suc, ◌+◌, List, [], ◌∷◌, ◌++◌, length, map, set, get_or, refl, sym, ap, ◌∙◌, subst, arith}
use Rattle.std.specs.Prelude.{slice_get, replicate}
use Rattle.std.specs.List.{AllByRecursion}
use Rattle.std.proofs.lemmas.List.{map-append, map-set, replicate_more}
use Rattle.pipsmake_rules.specs.declared.kind.Kind.{Kind}
use Rattle.pipsmake_rules.specs.declared.kind.Kind.TheVariants.{Parsed, Lines, Symbols, CallGraph, Effects, Transformers, Preconditions, Regions, InRegions, OutRegions, Marks, Printed}
use Rattle.pipsmake_rules.specs.Kinds.{number_of}
use Rattle.pipsmake_meaning.specs.MemoCells.{MemoCell, Stamped, no_memo_cell, forgotten}
use Rattle.pipsmake_meaning.specs.Values.{Item, text, result}
use Rattle.result_store.specs.declared.memo_cell.MemoCell as code
use Rattle.result_store.specs.declared.item.Item as code_item
use Rattle.result_store.specs.declared.item.Item.TheVariants as variant
use Rattle.result_store.specs.Seen.{kept_at}
use Rattle.result_store.specs.Values.{item_of}
use Rattle.result_store.specs.Fits.{MemoCellFits}
use Rattle.result_store.specs.Rows.{RowTree, memo_cell_tree, memo_cell_at, memo_cell_or_none, RowFits}
use Rattle.result_store.specs.RowChanges.{IsEmptyRow, ChangesAt, ForgetsAll}
use Rattle.result_store.proofs.ListLaws.{map-set_same, slice_get-map_at, get-set, get-set_other, length-set, all_at, all_set}

-- ---- numbers of kinds

pub number_below : (k : Kind) → number_of k < 12
number_below Parsed = omega arith
number_below Lines = omega arith
number_below Symbols = omega arith
number_below CallGraph = omega arith
number_below Effects = omega arith
number_below Transformers = omega arith
number_below Preconditions = omega arith
number_below Regions = omega arith
number_below InRegions = omega arith
number_below OutRegions = omega arith
number_below Marks = omega arith
number_below Printed = omega arith

abbrev kind_at : ℕ → Kind
kind_at n = get_or (Parsed ∷ Lines ∷ Symbols ∷ CallGraph ∷ Effects ∷ Transformers ∷ Preconditions ∷ Regions ∷ InRegions ∷ OutRegions ∷ Marks ∷ Printed ∷ []) n Parsed

kind_at-number : (k : Kind) → kind_at (number_of k) ≡ k
kind_at-number Parsed = refl
kind_at-number Lines = refl
kind_at-number Symbols = refl
kind_at-number CallGraph = refl
kind_at-number Effects = refl
kind_at-number Transformers = refl
kind_at-number Preconditions = refl
kind_at-number Regions = refl
kind_at-number InRegions = refl
kind_at-number OutRegions = refl
kind_at-number Marks = refl
kind_at-number Printed = refl

same_kind : (j k : Kind) → number_of j ≡ number_of k → j ≡ k
same_kind j k e = sym (kind_at-number j) ∙ ap kind_at e ∙ kind_at-number k

pub one_more : (ss ts : List code.MemoCell) (s : code.MemoCell) (n : ℕ) → ts ≡ ss ++ s ∷ [] → memo_cell_tree s ≡ no_memo_cell → map memo_cell_tree ss ≡ replicate n no_memo_cell → map memo_cell_tree ts ≡ replicate (n + 1) no_memo_cell
one_more ss ts s n e z h = ap (map memo_cell_tree) e ∙ map-append memo_cell_tree ss (s ∷ []) ∙ ap (λ us. us ++ memo_cell_tree s ∷ []) h ∙ ap (λ u. replicate n no_memo_cell ++ u ∷ []) z ∙ replicate_more n no_memo_cell

-- ---- lists of memo cells

get-replicate : (n i : ℕ) → memo_cell_or_none (slice_get (replicate n no_memo_cell) i) ≡ no_memo_cell
get-replicate zero i = refl
get-replicate (suc n) zero = refl
get-replicate (suc n) (suc i) = get-replicate n i

all_empty : (n : ℕ) → AllByRecursion MemoCellFits (replicate n no_memo_cell)
all_empty zero = tt
all_empty (suc n) = (tt, all_empty n)

get-forgotten : (ss : List MemoCell) (i : ℕ) → memo_cell_or_none (slice_get (map forgotten ss) i) ≡ forgotten (memo_cell_or_none (slice_get ss i))
get-forgotten [] i = refl
get-forgotten (s ∷ ss) zero = refl
get-forgotten (s ∷ ss) (suc i) = get-forgotten ss i

all_forgotten : (ss : List MemoCell) → AllByRecursion MemoCellFits ss → AllByRecursion MemoCellFits (map forgotten ss)
all_forgotten [] h = tt
all_forgotten (s ∷ ss) h = (h.0, all_forgotten ss h.1)

length-forgotten : (ss : List MemoCell) → length (map forgotten ss) ≡ length ss
length-forgotten [] = refl
length-forgotten (s ∷ ss) = ap suc (length-forgotten ss)

pub fits_at : (ss : List MemoCell) (i : ℕ) → AllByRecursion MemoCellFits ss → MemoCellFits (memo_cell_or_none (slice_get ss i))
fits_at [] i h = tt
fits_at (s ∷ ss) zero h = h.0
fits_at (s ∷ ss) (suc i) h = fits_at ss i h.1

-- ---- rows

pub is_empty_row : (x : List ℕ) (r : RowTree) → r.name ≡ x → r.text ≡ no_memo_cell → r.results ≡ replicate 12 no_memo_cell → IsEmptyRow x r
is_empty_row x r n t s = record {
  name = n;
  memo_cells = go;
  fits = record {
    kinds = ap length s;
    text = subst MemoCellFits (sym t) tt;
    results = subst (AllByRecursion MemoCellFits) (sym s) (all_empty 12);
  };
}
  where
    go : (item : Item) → memo_cell_at r item ≡ no_memo_cell
    go text = t
    go (result k) = ap (λ ss. memo_cell_or_none (slice_get ss (number_of k))) s ∙ get-replicate 12 (number_of k)

-- the text's memo cell is changed
pub text_changes : (r new : RowTree) → new.name ≡ r.name → new.results ≡ r.results → MemoCellFits new.text → RowFits r → ChangesAt text r new
text_changes r new n s f fits = record {
  name = n;
  others = go;
  fits = record { kinds = ap length s ∙ fits.kinds; text = f; results = subst (AllByRecursion MemoCellFits) (sym s) fits.results };
}
  where
    go : (other : Item) → (other ≡ text → ⊥) → memo_cell_at new other ≡ memo_cell_at r other
    go text d = absurd (d refl)
    go (result k) d = ap (λ ss. memo_cell_or_none (slice_get ss (number_of k))) s

-- that of a result
pub result_changes : (r new : RowTree) (k : Kind) (s : MemoCell) → new.name ≡ r.name → new.text ≡ r.text → new.results ≡ set r.results (number_of k) s → MemoCellFits s → RowFits r → ChangesAt (result k) r new
result_changes r new k s n t e f fits = record {
  name = n;
  others = go;
  fits = record {
    kinds = ap length e ∙ length-set r.results (number_of k) s ∙ fits.kinds;
    text = subst MemoCellFits (sym t) fits.text;
    results = subst (AllByRecursion MemoCellFits) (sym e) (all_set MemoCellFits r.results (number_of k) s f fits.results);
  };
}
  where
    go : (other : Item) → (other ≡ result k → ⊥) → memo_cell_at new other ≡ memo_cell_at r other
    go text d = t
    go (result j) d =
        ap (λ ss. memo_cell_or_none (slice_get ss (number_of j))) e
        ∙ ap memo_cell_or_none (get-set_other r.results (number_of k) (number_of j) s (λ z. d (ap result (same_kind j k z))))

pub result_after : (r new : RowTree) (k : Kind) (s : MemoCell) → new.results ≡ set r.results (number_of k) s → RowFits r → memo_cell_at new (result k) ≡ s
result_after r new k s e fits =
    ap (λ ss. memo_cell_or_none (slice_get ss (number_of k))) e
    ∙ ap memo_cell_or_none (get-set r.results (number_of k) s (let z = number_below k in omega (arith, z, fits.kinds)))

pub forgets_all : (r new : RowTree) → new.name ≡ r.name → new.text ≡ r.text → new.results ≡ map forgotten r.results → RowFits r → ForgetsAll r new
forgets_all r new n t e fits = record {
  name = n;
  text = t;
  results = λ k. ap (λ ss. memo_cell_or_none (slice_get ss (number_of k))) e ∙ get-forgotten r.results (number_of k);
  fits = record {
    kinds = ap length e ∙ length-forgotten r.results ∙ fits.kinds;
    text = subst MemoCellFits (sym t) fits.text;
    results = subst (AllByRecursion MemoCellFits) (sym e) (all_forgotten r.results fits.results);
  };
}

-- ---- the code's memo cells of a row

length-trees : (ss : List code.MemoCell) → length (map memo_cell_tree ss) ≡ length ss
length-trees [] = refl
length-trees (s ∷ ss) = ap suc (length-trees ss)

pub forgotten_trees : (ss : List code.MemoCell) → map (λ s. forgotten (memo_cell_tree s)) ss ≡ map forgotten (map memo_cell_tree ss)
forgotten_trees [] = refl
forgotten_trees (s ∷ ss) = ap (λ us. forgotten (memo_cell_tree s) ∷ us) (forgotten_trees ss)

pub memo_cell_within : (ss : List code.MemoCell) (k : Kind) (n : ℕ) → n ≡ number_of k → length (map memo_cell_tree ss) ≡ 12 → n < length ss
memo_cell_within ss k n e h = let a = number_below k in let b = length-trees ss in omega (arith, e, a, b, h)

pub memo_cell_fits : (ss : List code.MemoCell) (k : Kind) (n : ℕ) (s : code.MemoCell) → n ≡ number_of k → length (map memo_cell_tree ss) ≡ 12 → s ≡ get_or ss n s → AllByRecursion MemoCellFits (map memo_cell_tree ss) → MemoCellFits (memo_cell_tree s)
memo_cell_fits ss k n s e h is f = all_at MemoCellFits (map memo_cell_tree ss) n (memo_cell_tree s) f (slice_get-map_at memo_cell_tree ss n s (memo_cell_within ss k n e h) is)

abbrev pub tree : List ℕ → MemoCell → List code.MemoCell → RowTree
tree x t ss = record { name = x; text = t; results = map memo_cell_tree ss }

module _ (x : List ℕ) (t : MemoCell) (ss : List code.MemoCell) (item : code_item.Item) (k : Kind) (n : ℕ) (old new : code.MemoCell) (is : item ≡ variant.Result k) (number : n ≡ number_of k) (at : old ≡ get_or ss n old) (fits : RowFits (tree x t ss)) where
  item_is : item_of item ≡ result k
  item_is = ap item_of is

  trees-set : map memo_cell_tree (set ss n new) ≡ set (map memo_cell_tree ss) (number_of k) (memo_cell_tree new)
  trees-set = map-set memo_cell_tree ss n new ∙ ap (λ i. set (map memo_cell_tree ss) i (memo_cell_tree new)) number

  pub row_changes : MemoCellFits (memo_cell_tree new) → ChangesAt (item_of item) (tree x t ss) (tree x t (set ss n new))
  row_changes f = subst (λ i. ChangesAt i (tree x t ss) (tree x t (set ss n new))) (sym item_is) (result_changes (tree x t ss) (tree x t (set ss n new)) k (memo_cell_tree new) refl refl trees-set f fits)

  pub memo_cell_before : memo_cell_tree old ≡ memo_cell_at (tree x t ss) (item_of item)
  memo_cell_before =
      sym (ap (λ i. memo_cell_at (tree x t ss) i) item_is
      ∙ ap (λ i. memo_cell_or_none (slice_get (map memo_cell_tree ss) i)) (sym number)
      ∙ ap memo_cell_or_none (slice_get-map_at memo_cell_tree ss n old (memo_cell_within ss k n number fits.kinds) at))

  pub memo_cell_after : memo_cell_tree new ≡ memo_cell_at (tree x t (set ss n new)) (item_of item)
  memo_cell_after = sym (ap (λ i. memo_cell_at (tree x t (set ss n new)) i) item_is ∙ result_after (tree x t ss) (tree x t (set ss n new)) k (memo_cell_tree new) trees-set fits)

  pub row_unchanged : memo_cell_tree new ≡ memo_cell_tree old → tree x t (set ss n new) ≡ tree x t ss
  row_unchanged e = let mk : List MemoCell → RowTree = λ us. record { name = x; text = t; results = us } in ap mk (map-set_same memo_cell_tree ss n old new at e)

-- the same values fit
pub fits_kept_at : (old new : MemoCell) (n : ℕ) (needs : List Stamped) → new ≡ kept_at old n needs → MemoCellFits old → MemoCellFits new
fits_kept_at old new n needs e f = subst MemoCellFits (sym e) f
