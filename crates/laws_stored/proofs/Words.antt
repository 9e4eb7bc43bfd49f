-- The names of a table are names as results are stored with them: each is one, and none comes twice.
use Rattle.std.proofs.Common.{◌≡◌, ℕ, suc, ◌<◌, ◌^◌, true, false, List, [], ◌∷◌, ◌++◌, length, None, Some, Ok, refl, ap, ◌∙◌}
use Rattle.std.specs.Prelude.{if◌then◌else◌, is_none, bytes_eq, nat_le}
use Rattle.std.specs.List.{IsDistinct, AllByRecursion}
use Rattle.std.proofs.lemmas.Bool.{and_from, and_parts}
use Rattle.f77_ast.specs.DeclTrees.{ParsedTree}
use Rattle.f77_ast.specs.Symbols.{SymbolTree, number_from}
use Rattle.f77_meaning.specs.Modules.{symbol_names}
use Rattle.storage_layout.specs.Symbols.{symbols_of}
use Rattle.laws_programs.specs.roundtrip_programs.Statements.Formed.{Each as All}
use Rattle.laws_programs.proofs.Sources.{IsBuilt}
use Rattle.laws_lines.proofs.TableNames.{names_are_distinct}
use Rattle.base_json.specs.Scopes.{is_name}
use Rattle.base_json.specs.Distinct.{are_new}
use Rattle.base_values.specs.Naming.{Each, AreNames}
use Rattle.laws_stored.proofs.ShortNames.{IsWord, symbols_words}
use Rattle.base_values.proofs.Options.{each_map as each_more}
use Rattle.laws_stored.proofs.Lists.{each-append}
use Rattle.fx_lists.proofs.Lists.{other_way as turned}

words_are : (xs : List (List ℕ)) → All IsWord xs → Each (λ x. is_name x ≡ true) xs
words_are [] h = tt
words_are (x ∷ xs) h = ((and_parts (is_name x) (nat_le (length x) 31) h.first).0, words_are xs h.others)

-- ---- none comes twice

-- one that is before these is none of them
abbrev IsOther : List (List ℕ) → List ℕ → Type 0
IsOther ks b = Each (λ k. bytes_eq k b ≡ false) ks

others : (x : List ℕ) (ys : List (List ℕ)) → AllByRecursion (λ y. bytes_eq x y ≡ false) ys → IsOther ys x
others x [] h = tt
others x (y ∷ ys) h = (turned x y h.0, others x ys h.1)

none_among : (n : ℕ) (before : List (List ℕ)) (k : List ℕ) → Each (λ b. bytes_eq k b ≡ false) before → number_from n before k ≡ None
none_among n [] k h = refl
none_among n (b ∷ bs) k h = ap (λ t. if t then Some n else number_from (suc n) bs k) h.0 ∙ none_among (suc n) bs k h.1

all_new : (before ks : List (List ℕ)) → Each (IsOther ks) before → IsDistinct bytes_eq ks → are_new before ks ≡ true
unfolding IsDistinct
all_new before [] h d = refl
all_new before (k ∷ ks) h d =
    let this = none_among 1 before k (each_more (IsOther (k ∷ ks)) (λ b. bytes_eq k b ≡ false) (λ b i. i.0) before h) in
    let later = each-append (IsOther ks) before (k ∷ []) (each_more (IsOther (k ∷ ks)) (IsOther ks) (λ b i. i.1) before h) (others k ks d.0, tt) in
    and_from (is_none (number_from 1 before k)) (are_new (before ++ k ∷ []) ks) (ap is_none this) (all_new (before ++ k ∷ []) ks later d.1)

-- ---- of a table

pub names_are : (p : ParsedTree) (ss : List SymbolTree) → IsBuilt p → symbols_of p ≡ Ok ss → length (symbol_names ss) < 2 ^ 32 → AreNames (symbol_names ss)
names_are p ss b e few = record { few = few; are = words_are (symbol_names ss) (symbols_words p ss b e); once = all_new [] (symbol_names ss) tt (names_are_distinct p ss e) }
