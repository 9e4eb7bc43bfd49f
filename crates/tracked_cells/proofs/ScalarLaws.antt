-- Keys of units in order, and the units that they stand for.
use Rattle.std.proofs.Common.{◌≡◌, ℕ, List, [], ◌∷◌, refl, ap, ◌∙◌, Vec, Global}
use Rattle.std.specs.declared.cmp.Ordering.{Ordering}
use Rattle.std.specs.declared.cmp.Ordering.TheVariants.{Less, Equal, Greater}
use Rattle.std.specs.Ordering.{match_ordering, ordering_then, nat_cmp}
use Rattle.std.specs.Cmp.Lexicographic.{slice_cmp}
use Rattle.std.specs.BTreeSet.{insert_key}
use Rattle.tracked_cells.specs.Scalars.{unit, unit_put, key_unit, keyed}

abbrev Key : Type 0
Key = Vec ℕ Global × ℕ

abbrev key_cmp : Key → Key → Ordering
key_cmp k l = ordering_then (slice_cmp nat_cmp k.0.items l.0.items) (nat_cmp k.1 l.1)

put-insert : (k : Key) (ks : List Key) → keyed (insert_key key_cmp ks k) ≡ unit_put (key_unit k) (keyed ks)
put-insert k [] = refl
put-insert k (l ∷ ks) = go (key_cmp k l) (put-insert k ks)
  where
    go : (o : Ordering) → keyed (insert_key key_cmp ks k) ≡ unit_put (key_unit k) (keyed ks) → keyed (match_ordering o (k ∷ l ∷ ks) (l ∷ ks) (l ∷ insert_key key_cmp ks k)) ≡ match_ordering o (key_unit k ∷ key_unit l ∷ keyed ks) (key_unit l ∷ keyed ks) (key_unit l ∷ unit_put (key_unit k) (keyed ks))
    go Less ih = refl
    go Equal ih = refl
    go Greater ih = ap (λ us. key_unit l ∷ us) ih

-- a key goes in as its unit
pub put_in : (x : List ℕ) (v : Vec ℕ Global) (o : ℕ) (ks ls : List Key) → v.items ≡ x → ls ≡ insert_key key_cmp ks (v, o) → keyed ls ≡ unit_put (unit x o) (keyed ks)
put_in x v o ks ls same i = ap keyed i ∙ put-insert (v, o) ks ∙ ap (λ y. unit_put (unit y o) (keyed ks)) same
