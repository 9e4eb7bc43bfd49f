-- Rows of memo cells: the row of a name, one row more, and a row that is changed.
use Rattle.std.proofs.Common.{◌≡◌, ◌<◌, ℕ, zero, suc, ◌+◌, Bool, true, false, List, [], ◌∷◌, ◌++◌, length, map, set, get_or, Option, Some, None, inl, refl, sym, ap, ◌∙◌, subst, arith}
use Rattle.std.specs.Prelude.{slice_get, bytes_eq, IfSome, if◌then◌else◌}
use Rattle.std.specs.List.{AllByRecursion}
use Rattle.std.specs.Cmp.Lexicographic.{bytes_decides}
use Rattle.std.proofs.lemmas.List.{map-append, map-set}
use Rattle.f77_ast.specs.Symbols.{number_from}
use Rattle.f77_ast.specs.declared.name_index.NameIndex.{NameIndex}
use Rattle.f77_ast.specs.Index.{Indexes}
use Rattle.f77_ast.proofs.NumbersLaws.{number_from-append}
use Rattle.pipsmake_meaning.specs.Making.{AllStay}
use Rattle.pipsmake_meaning.specs.MemoCells.{MemoCell, MemoCells, Stamped, Keeps, KeepsIn, no_memo_cell, forgotten, Sees, SeenIn, Forgets}
use Rattle.pipsmake_meaning.specs.Values.{Value, Item, text, result}
use Rattle.result_store.specs.declared.row.Row.{Row}
use Rattle.result_store.specs.Rows.{RowTree, row_tree, memo_cell_at, row_in, memo_cell_in, memo_cells_of, names_of, RowFits, AreRows}
use Rattle.result_store.specs.RowChanges.{IsEmptyRow, ChangesAt, ForgetsAll}
use Rattle.result_store.specs.Seen.{kept_at, KeepsSeen}
use Rattle.result_store.proofs.ListLaws.{map-set_same, slice_get-map_at, all_at, all_set, all_more}

-- the first row of a name is at this place
abbrev pub IsAt : List RowTree → List ℕ → ℕ → Type 0
IsAt [] x p = ⊥
IsAt (r ∷ rs) x zero = bytes_eq x r.name ≡ true
IsAt (r ∷ rs) x (suc p) = (bytes_eq x r.name ≡ false) × IsAt rs x p

pub is_at : (n k : ℕ) (rows : List Row) (x : List ℕ) → number_from n (names_of rows) x ≡ Some k → (p : ℕ) × (k ≡ n + p) × IsAt (map row_tree rows) x p
is_at n k [] x e = cc
is_at n k (r ∷ rs) x e = go (bytes_eq x r.name) refl e (is_at (suc n) k rs x)
  where
    go : (b : Bool) → bytes_eq x r.name ≡ b → (if b then Some n else number_from (suc n) (names_of rs) x) ≡ Some k → (number_from (suc n) (names_of rs) x ≡ Some k → (p : ℕ) × (k ≡ suc n + p) × IsAt (map row_tree rs) x p) → (p : ℕ) × (k ≡ n + p) × IsAt (row_tree r ∷ map row_tree rs) x p
    go true t s ih = (0, (let z : n ≡ k = cc in omega arith), t)
    go false t s ih = let h = ih s in (suc h.0, omega (arith, h.1), (t, h.2))

pub row_at : (rows : List Row) (x : List ℕ) (k : ℕ) → number_from 0 (names_of rows) x ≡ Some k → IsAt (map row_tree rows) x k
row_at rows x k e = let h = is_at 0 k rows x e in let z : h.0 ≡ k = omega (arith, h.1) in subst (IsAt (map row_tree rows) x) z h.2

pub no_row : (n : ℕ) (rows : List Row) (x : List ℕ) → number_from n (names_of rows) x ≡ None → row_in (map row_tree rows) x ≡ None
no_row n [] x e = refl
no_row n (r ∷ rs) x e = go (bytes_eq x r.name) e (no_row (suc n) rs x)
  where
    go : (b : Bool) → (if b then Some n else number_from (suc n) (names_of rs) x) ≡ None → (number_from (suc n) (names_of rs) x ≡ None → row_in (map row_tree rs) x ≡ None) → (if b then Some (row_tree r) else row_in (map row_tree rs) x) ≡ None
    go true s ih = cc
    go false s ih = ih s

-- ---- the row at a place

pub is_within : (rs : List RowTree) (x : List ℕ) (p : ℕ) → IsAt rs x p → p < length rs
is_within [] x p h = absurd h
is_within (r ∷ rs) x zero h = omega arith
is_within (r ∷ rs) x (suc p) h = let z = is_within rs x p h.1 in omega (arith, z)

pub row_in-at : (rs : List RowTree) (x : List ℕ) (p : ℕ) → IsAt rs x p → row_in rs x ≡ slice_get rs p
row_in-at [] x p h = absurd h
row_in-at (r ∷ rs) x zero h = ap (λ b. if b then Some r else row_in rs x) h
row_in-at (r ∷ rs) x (suc p) h = ap (λ b. if b then Some r else row_in rs x) h.0 ∙ row_in-at rs x p h.1

same_name : (rs : List RowTree) (x : List ℕ) (p : ℕ) (r : RowTree) → IsAt rs x p → slice_get rs p ≡ Some r → bytes_eq x r.name ≡ true
same_name [] x p r h e = absurd h
same_name (q ∷ rs) x zero r h e = let z : q ≡ r = cc in subst (λ (s : RowTree). bytes_eq x s.name ≡ true) z h
same_name (q ∷ rs) x (suc p) r h e = same_name rs x p r h.1 e

-- ---- a row that is changed

row_in-set : (rs : List RowTree) (x : List ℕ) (p : ℕ) (r new : RowTree) → IsAt rs x p → slice_get rs p ≡ Some r → new.name ≡ r.name → row_in (set rs p new) x ≡ Some new
row_in-set [] x p r new h e n = absurd h
row_in-set (q ∷ rs) x zero r new h e n =
    let z : q ≡ r = cc in
    let same : bytes_eq x new.name ≡ true = ap (bytes_eq x) (n ∙ sym (ap (λ (s : RowTree). s.name) z)) ∙ h in
    ap (λ b. if b then Some new else row_in rs x) same
row_in-set (q ∷ rs) x (suc p) r new h e n = ap (λ b. if b then Some q else row_in (set rs p new) x) h.0 ∙ row_in-set rs x p r new h.1 e n

row_in-others : (rs : List RowTree) (x y : List ℕ) (p : ℕ) (r new : RowTree) → IsAt rs x p → slice_get rs p ≡ Some r → new.name ≡ r.name → (y ≡ x → ⊥) → row_in (set rs p new) y ≡ row_in rs y
row_in-others [] x y p r new h e n d = absurd h
row_in-others (q ∷ rs) x y zero r new h e n d =
    let z : q ≡ r = cc in
    let named : new.name ≡ q.name = n ∙ sym (ap (λ (s : RowTree). s.name) z) in
    let at : x ≡ q.name = (bytes_decides x q.name).0 h in
    go (bytes_eq y q.name) refl named at
  where
    go : (b : Bool) → bytes_eq y q.name ≡ b → new.name ≡ q.name → x ≡ q.name → (if bytes_eq y new.name then Some new else row_in rs y) ≡ (if bytes_eq y q.name then Some q else row_in rs y)
    go true t named at = absurd (d ((bytes_decides y q.name).0 t ∙ sym at))
    go false t named at = ap (λ b. if b then Some new else row_in rs y) (ap (bytes_eq y) named ∙ t) ∙ sym (ap (λ b. if b then Some q else row_in rs y) t)
row_in-others (q ∷ rs) x y (suc p) r new h e n d = ap (λ o. if bytes_eq y q.name then Some q else o) (row_in-others rs x y p r new h.1 e n d)

-- what is kept of a name and item where one memo cell of its row was changed
pub record IsChanged (rs : List RowTree) (x : List ℕ) (item : Item) (r new : RowTree) (news : List RowTree) : Type 0 where
  pub before : memo_cell_in (row_in rs x) item ≡ memo_cell_at r item
  pub after : memo_cell_in (row_in news x) item ≡ memo_cell_at new item
  pub others : (other : Item) (y : List ℕ) → (((other ≡ item) × (y ≡ x)) → ⊥) → memo_cell_in (row_in news y) other ≡ memo_cell_in (row_in rs y) other

pub changed : (rs : List RowTree) (x : List ℕ) (item : Item) (p : ℕ) (r new : RowTree) → IsAt rs x p → slice_get rs p ≡ Some r → new.name ≡ r.name → ((other : Item) → (other ≡ item → ⊥) → memo_cell_at new other ≡ memo_cell_at r other) → IsChanged rs x item r new (set rs p new)
changed rs x item p r new h e n others = record {
  before = ap (λ o. memo_cell_in o item) (row_in-at rs x p h ∙ e);
  after = ap (λ o. memo_cell_in o item) (row_in-set rs x p r new h e n);
  others = λ other y d. go (bytes_eq y x) other y refl d;
}
  where
    go : (b : Bool) (other : Item) (y : List ℕ) → bytes_eq y x ≡ b → (((other ≡ item) × (y ≡ x)) → ⊥) → memo_cell_in (row_in (set rs p new) y) other ≡ memo_cell_in (row_in rs y) other
    go true other y t d =
        let same : y ≡ x = (bytes_decides y x).0 t in
        subst (λ z. memo_cell_in (row_in (set rs p new) z) other ≡ memo_cell_in (row_in rs z) other) (sym same)
        (ap (λ o. memo_cell_in o other) (row_in-set rs x p r new h e n) ∙ others other (λ i. d (i, same)) ∙ sym (ap (λ o. memo_cell_in o other) (row_in-at rs x p h ∙ e)))
    go false other y t d = ap (λ o. memo_cell_in o other) (row_in-others rs x y p r new h e n (λ same. let z : false ≡ true = sym t ∙ (bytes_decides y x).1 same in cc))

-- ---- the rows of the code

names-set : (rows : List Row) (p : ℕ) (old new : Row) → old ≡ get_or rows p old → new.name ≡ old.name → names_of (set rows p new) ≡ names_of rows
names-set rows p old new e n = map-set_same (λ (r : Row). r.name) rows p old new e n

row_length : (rows : List Row) → length (map row_tree rows) ≡ length rows
row_length [] = refl
row_length (r ∷ rs) = ap suc (row_length rs)

pub place_within : (rows : List Row) (x : List ℕ) (p : ℕ) → number_from 0 (names_of rows) x ≡ Some p → p < length rows
place_within rows x p e = let z = is_within (map row_tree rows) x p (row_at rows x p e) in omega (arith, z, row_length rows)

pub within_rows : (o : Option ℕ) (x : List ℕ) (rows : List Row) → o ≡ number_from 0 (names_of rows) x → IfSome o (λ at. at < length rows)
within_rows None x rows e = tt
within_rows (Some p) x rows e = place_within rows x p (sym e)

module _ (rows : List Row) (x : List ℕ) (p : ℕ) (old : Row) (at : number_from 0 (names_of rows) x ≡ Some p) (is : old ≡ get_or rows p old) where
  found : slice_get (map row_tree rows) p ≡ Some (row_tree old)
  found = slice_get-map_at row_tree rows p old (place_within rows x p at) is

  pub row_found : Some (row_tree old) ≡ row_in (map row_tree rows) x
  row_found = sym (row_in-at (map row_tree rows) x p (row_at rows x p at) ∙ found)

  pub row_fits : (index : NameIndex) → AreRows index rows → RowFits (row_tree old)
  row_fits index are = all_at RowFits (map row_tree rows) p (row_tree old) are.fits found

  pub rows_after : (index : NameIndex) (new : Row) → new.name ≡ old.name → RowFits (row_tree new) → AreRows index rows → AreRows index (set rows p new)
  rows_after index new n f are = record {
    index = subst (Indexes index) (sym (names-set rows p old new is n)) are.index;
    fits = subst (AllByRecursion RowFits) (sym (map-set row_tree rows p new)) (all_set RowFits (map row_tree rows) p (row_tree new) f are.fits);
  }

  pub row_changed : (item : Item) (new : Row) → ChangesAt item (row_tree old) (row_tree new) → IsChanged (map row_tree rows) x item (row_tree old) (row_tree new) (map row_tree (set rows p new))
  row_changed item new c =
      subst (IsChanged (map row_tree rows) x item (row_tree old) (row_tree new)) (sym (map-set row_tree rows p new))
      (changed (map row_tree rows) x item p (row_tree old) (row_tree new) (row_at rows x p at) found c.name c.others)

  pub nothing_changed : (new : Row) → row_tree new ≡ row_tree old → AllStay (memo_cells_of rows) (memo_cells_of (set rows p new))
  nothing_changed new e item y = ap (λ rs. memo_cell_in (row_in rs y) item) (map-set_same row_tree rows p old new is e)

  pub row_forgotten : (new : Row) → ForgetsAll (row_tree old) (row_tree new) → Forgets (memo_cells_of rows) (memo_cells_of (set rows p new)) x
  row_forgotten new f = record {
    text = after text ∙ f.text ∙ sym (before text);
    results = λ k. after (result k) ∙ f.results k ∙ sym (ap forgotten (before (result k)));
    others = λ item y d. ap (λ rs. memo_cell_in (row_in rs y) item) (map-set row_tree rows p new) ∙ ap (λ o. memo_cell_in o item) (row_in-others (map row_tree rows) x y p (row_tree old) (row_tree new) (row_at rows x p at) found f.name d);
  }
    where
      before : (item : Item) → memo_cells_of rows item x ≡ memo_cell_at (row_tree old) item
      before item = ap (λ o. memo_cell_in o item) (row_in-at (map row_tree rows) x p (row_at rows x p at) ∙ found)

      after : (item : Item) → memo_cells_of (set rows p new) item x ≡ memo_cell_at (row_tree new) item
      after item = ap (λ rs. memo_cell_in (row_in rs x) item) (map-set row_tree rows p new) ∙ ap (λ o. memo_cell_in o item) (row_in-set (map row_tree rows) x p (row_tree old) (row_tree new) (row_at rows x p at) found f.name)

-- of a name that has no row nothing is kept
pub no_name_forgets : (rows : List Row) (x : List ℕ) → number_from 0 (names_of rows) x ≡ None → Forgets (memo_cells_of rows) (memo_cells_of rows) x
no_name_forgets rows x e =
    let none = no_row 0 rows x e in
    record {
      text = refl;
      results = λ k. ap (λ o. memo_cell_in o (result k)) none ∙ sym (ap (λ o. forgotten (memo_cell_in o (result k))) none);
      others = λ item y d. refl;
    }

-- ---- what calls say

abbrev now : List RowTree → MemoCells
now ts item y = memo_cell_in (row_in ts y) item

module _ (old : MemoCells) (rs news : List RowTree) (x : List ℕ) (item : Item) (r new : RowTree) where
  pub kept_in : (v : Value) (needs : List Stamped) → AllStay old (now rs) → IsChanged rs x item r new news → Keeps (memo_cell_at r item) v needs (memo_cell_at new item) → KeepsIn old (now news) item x v needs
  kept_in v needs s c k = record {
    keeps = subst (λ a. Keeps a v needs (now news item x)) (sym c.before ∙ s item x) (subst (λ b. Keeps (memo_cell_at r item) v needs b) (sym c.after) k);
    others = λ other y d. c.others other y d ∙ s other y;
  }

  pub seen_in : (v : Value) (n : ℕ) → AllStay old (now rs) → IsChanged rs x item r new news → Sees (memo_cell_at r item) v n (memo_cell_at new item) → SeenIn old (now news) item x v n
  seen_in v n s c k = record {
    sees = subst (λ a. Sees a v n (now news item x)) (sym c.before ∙ s item x) (subst (λ b. Sees (memo_cell_at r item) v n b) (sym c.after) k);
    others = λ other y d. c.others other y d ∙ s other y;
  }

-- of a name that has no row nothing was seen
pub no_name_keeps : (rows : List Row) (x : List ℕ) (item : Item) (n : ℕ) (needs : List Stamped) → number_from 0 (names_of rows) x ≡ None → KeepsSeen (memo_cells_of rows) (memo_cells_of rows) item x n needs
no_name_keeps rows x item n needs e v at =
    let none : slice_get (memo_cells_of rows item x).values n ≡ None = ap (λ o. slice_get (memo_cell_in o item).values n) (no_row 0 rows x e) in
    absurd (let z : None ≡ Some v = sym none ∙ at in cc)

pub keeps_seen_in : (rs news : List RowTree) (x : List ℕ) (item : Item) (r new : RowTree) (n : ℕ) (needs : List Stamped) → IsChanged rs x item r new news → memo_cell_at new item ≡ kept_at (memo_cell_at r item) n needs → KeepsSeen (now rs) (now news) item x n needs
keeps_seen_in rs news x item r new n needs c e v at =
    let is : now news item x ≡ kept_at (now rs item x) n needs = c.after ∙ e ∙ ap (λ s. kept_at s n needs) (sym c.before) in
    record {
      keeps = record {
        stamp = n;
        values = inl (ap (λ (s : MemoCell). s.values) is);
        at = ap (λ (s : MemoCell). slice_get s.values n) is ∙ at;
        kept = ap (λ (s : MemoCell). s.kept) is;
      };
      others = c.others;
    }

-- ---- a row more

row_in-more : (rs : List RowTree) (r : RowTree) (x : List ℕ) (y : List ℕ) (item : Item) → IsEmptyRow x r → memo_cell_in (row_in (rs ++ r ∷ []) y) item ≡ memo_cell_in (row_in rs y) item
row_in-more [] r x y item h = go (bytes_eq y r.name)
  where
    go : (b : Bool) → memo_cell_in (if b then Some r else None) item ≡ no_memo_cell
    go true = h.memo_cells item
    go false = refl
row_in-more (q ∷ rs) r x y item h = go (bytes_eq y q.name) (row_in-more rs r x y item h)
  where
    go : (b : Bool) → memo_cell_in (row_in (rs ++ r ∷ []) y) item ≡ memo_cell_in (row_in rs y) item → memo_cell_in (if b then Some q else row_in (rs ++ r ∷ []) y) item ≡ memo_cell_in (if b then Some q else row_in rs y) item
    go true e = refl
    go false e = e

module _ (rows : List Row) (x : List ℕ) (new : Row) (empty : IsEmptyRow x (row_tree new)) where
  more : map row_tree (rows ++ new ∷ []) ≡ map row_tree rows ++ row_tree new ∷ []
  more = map-append row_tree rows (new ∷ [])

  names-more : names_of (rows ++ new ∷ []) ≡ names_of rows ++ x ∷ []
  names-more = map-append (λ (r : Row). r.name) rows (new ∷ []) ∙ ap (λ y. names_of rows ++ y ∷ []) empty.name

  pub same_with_more : AllStay (memo_cells_of rows) (memo_cells_of (rows ++ new ∷ []))
  same_with_more item y = ap (λ rs. memo_cell_in (row_in rs y) item) more ∙ row_in-more (map row_tree rows) (row_tree new) x y item empty

  pub rows_with_more : (index next : NameIndex) → ((names : List (List ℕ)) → Indexes index names → Indexes next (names ++ x ∷ [])) → AreRows index rows → AreRows next (rows ++ new ∷ [])
  rows_with_more index next add are = record {
    index = subst (Indexes next) (sym names-more) (add (names_of rows) are.index);
    fits = subst (AllByRecursion RowFits) (sym more) (all_more RowFits (map row_tree rows) (row_tree new) are.fits empty.fits);
  }

  pub place_of_more : number_from 0 (names_of rows) x ≡ None → number_from 0 (names_of (rows ++ new ∷ [])) x ≡ Some (length rows)
  place_of_more e =
      ap (λ ys. number_from 0 ys x) names-more ∙ number_from-append 0 (names_of rows) x x e
      ∙ ap (λ b. if b then Some (0 + length (names_of rows)) else number_from 0 (names_of rows) x) ((bytes_decides x x).1 refl)
      ∙ (let z : 0 + length (names_of rows) ≡ length rows = omega (arith, names_length rows) in ap Some z)
    where
      names_length : (rs : List Row) → length (names_of rs) ≡ length rs
      names_length [] = refl
      names_length (r ∷ rs) = ap suc (names_length rs)
