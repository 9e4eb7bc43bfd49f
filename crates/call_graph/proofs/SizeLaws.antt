-- A map of sizes and the blocks that it stands for.
use Rattle.std.proofs.Common.{◌≡◌, ℕ, max, List, [], ◌∷◌, map, Option, Some, None, refl, sym, ap, ◌∙◌, Vec, Global}
use Rattle.std.specs.Prelude.{unwrap_or, cond}
use Rattle.std.specs.declared.cmp.Ordering.{Ordering}
use Rattle.std.specs.declared.cmp.Ordering.TheVariants.{Less, Equal, Greater}
use Rattle.std.specs.Ordering.{match_ordering, is_eq, nat_cmp}
use Rattle.std.specs.Cmp.Lexicographic.{slice_cmp}
use Rattle.std.specs.BTreeMap.{insert_entry, is_at}
use Rattle.std.specs.Map.{lookup}
use Rattle.call_graph.specs.Blocks.{name_cmp, block, known_size, block_put, block_grown}
use Rattle.call_graph.specs.Sizes.{entry_block}

abbrev key_cmp : Vec ℕ Global → Vec ℕ Global → Ordering
key_cmp x y = slice_cmp nat_cmp x.items y.items

pub known-lookup : (x : List ℕ) (es : List (Vec ℕ Global × ℕ)) → unwrap_or (lookup (is_at (λ k. slice_cmp nat_cmp x k.items)) es) 0 ≡ known_size x (map entry_block es)
known-lookup x [] = refl
known-lookup x (e ∷ es) = go (slice_cmp nat_cmp x e.0.items) (known-lookup x es)
  where
    go : (o : Ordering) → unwrap_or (lookup (is_at (λ k. slice_cmp nat_cmp x k.items)) es) 0 ≡ known_size x (map entry_block es) → unwrap_or (cond (is_eq o) (Some e.1) (lookup (is_at (λ k. slice_cmp nat_cmp x k.items)) es)) 0 ≡ match_ordering o (known_size x (map entry_block es)) e.1 (known_size x (map entry_block es))
    go Less ih = ih
    go Equal ih = refl
    go Greater ih = ih

put-insert : (k : Vec ℕ Global) (n : ℕ) (es : List (Vec ℕ Global × ℕ)) → map entry_block (insert_entry key_cmp es k n) ≡ block_put k.items n (map entry_block es)
put-insert k n [] = refl
put-insert k n (e ∷ es) = go (key_cmp k e.0) (put-insert k n es)
  where
    go : (o : Ordering) → map entry_block (insert_entry key_cmp es k n) ≡ block_put k.items n (map entry_block es) → map entry_block (match_ordering o ((k, n) ∷ e ∷ es) ((e.0, n) ∷ es) (e ∷ insert_entry key_cmp es k n)) ≡ match_ordering o (block k.items n ∷ entry_block e ∷ map entry_block es) (block e.0.items n ∷ map entry_block es) (entry_block e ∷ block_put k.items n (map entry_block es))
    go Less ih = refl
    go Equal ih = refl
    go Greater ih = ap (λ bs. entry_block e ∷ bs) ih

-- the larger of what is known and a size goes in
pub grown : (x : List ℕ) (k : Vec ℕ Global) (n known v : ℕ) (es fs : List (Vec ℕ Global × ℕ)) → k.items ≡ x → known ≡ unwrap_or (lookup (is_at (λ l. slice_cmp nat_cmp x l.items)) es) 0 → v ≡ max known n → fs ≡ insert_entry key_cmp es k v → map entry_block fs ≡ block_grown x n (map entry_block es)
grown x k n known v es fs same e m i =
    let bs = map entry_block es in
    ap (map entry_block) i ∙ put-insert k v es ∙ ap (λ y. block_put y v bs) same ∙ ap (λ w. block_put x w bs) (m ∙ ap (λ w. max w n) (e ∙ known-lookup x es))
