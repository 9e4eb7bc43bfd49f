-- A base that passes the tests is in the grammar.
use Rattle.std.proofs.Common.{◌≡◌, ℕ, ◌-◌, ◌<◌, ◌≤◌, true, List, [], ◌∷◌, length, take, drop, get_or, take_all, Some, option_map, sym, subst, ◌∙◌, arith}
use Rattle.base_json.specs.Distinct.{are_new}
use Rattle.base_values.specs.Naming.{Each}
use Rattle.base_values.proofs.Options.{if_some, map_some}
use Rattle.base_text.specs.declared.base.BaseModule.{BaseModule}
use Rattle.base_text.specs.declared.base.StoredResult.{StoredResult}
use Rattle.base_text.specs.Modules.{KnownNames, known, known_in, names_each, module_names_in}
use Rattle.base_text.specs.Order.{are_in_order}
use Rattle.base_text.specs.Read.{base}
use Rattle.base_text.specs.Written.{known_or_none}
use Rattle.base_text.specs.Grammar.{HasBytes, ResultFits, IsBase}
use Rattle.base_text.proofs.KnownLaws.{known_same}

pub in_grammar : (ms : List BaseModule) (rs : List StoredResult) (k : KnownNames) → known_in ms ≡ Some k → Each HasBytes ms → are_in_order k.names rs ≡ true → Each (ResultFits k) rs → IsBase (base ms rs)
in_grammar ms rs k e bytes ordered fit =
    let n = if_some (are_new [] (module_names_in ms)) (option_map (known ms) (names_each ms)) k e in
    let f = map_some (known ms) (names_each ms) k n.1 in
    record {
      bytes = bytes;
      found = f.0;
      are_modules = f.1;
      once = n.0;
      fit = subst (λ (j : KnownNames). Each (ResultFits j) rs) (sym f.2) fit;
      ordered = subst (λ (j : KnownNames). are_in_order j.names rs ≡ true) (sym f.2) ordered;
    }

-- what is known of modules that are read is what is known where a base of them is written
pub same_known : (ms : List BaseModule) (k : KnownNames) → known_in ms ≡ Some k → k ≡ known_or_none ms
same_known ms k e =
    let n = if_some (are_new [] (module_names_in ms)) (option_map (known ms) (names_each ms)) k e in
    let f = map_some (known ms) (names_each ms) k n.1 in
    sym (known_same ms f.0 f.1 ∙ f.2)

-- a list of numbers by its first one and the rest
pub numbers_rest : (P : ℕ → Type 0) (xs : List ℕ) → 0 < length xs → P (get_or xs 0 0) → Each P (take (length xs - 1) (drop 1 xs)) → Each P xs
numbers_rest P [] l p h = absurd (omega arith)
numbers_rest P (x ∷ xs) l p h = let n : length xs ≤ length (x ∷ xs) - 1 = omega arith in (p, subst (Each P) (take_all (length (x ∷ xs) - 1) xs n) h)
