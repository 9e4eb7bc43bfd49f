-- The names of the symbols of a module that is read.
use Rattle.std.proofs.Common.{◌≡◌, ℕ, suc, ◌<◌, ◌^◌, Bool, true, false, ◌&&◌, List, [], ◌∷◌, ◌++◌, length, Some, None, option_and_then, Result, Ok, Err, refl, sym, subst, ap, ◌∙◌, arith, if◌then◌else◌}
use Rattle.std.specs.Prelude.{bytes_eq, nat_lt, nat_le, is_none}
use Rattle.std.specs.List.{IsDistinct, AllByRecursion}
use Rattle.std.proofs.lemmas.Bool.{false_from_ne_true, false≢true}
use Rattle.std.proofs.lemmas.Slice.Eq.{bytes_eq-Decides}
use Rattle.fixed_form.specs.declared.line.Lines.{Lines}
use Rattle.fixed_form.specs.Reading.{reading}
use Rattle.f77_ast.specs.DeclTrees.{ParsedTree}
use Rattle.f77_parser.specs.Gives.{Refused, and_then}
use Rattle.f77_parser.specs.Modules.{parse_of}
use Rattle.f77_ast.specs.Symbols.{SymbolTree, number_from}
use Rattle.f77_meaning.specs.Modules.{symbol_names}
use Rattle.fx_lists.specs.declared.refusal.Refusal.{Refusal}
use Rattle.storage_layout.specs.Symbols.{symbols_of}
use Rattle.system_text.specs.Printed.{is_name as is_word}
use Rattle.session_texts.specs.pipsmake_meaning.Texts.{ReadModule, lines_or, with_table, one_module, module_read}
use Rattle.laws_lines.proofs.NameWords.{names_are_words}
use Rattle.laws_lines.proofs.TableNames.{names_are_distinct}
use Rattle.base_json.specs.Scopes.{is_name}
use Rattle.base_json.specs.Distinct.{are_new}
use Rattle.base_values.specs.Modules.{ModuleNames}
use Rattle.base_values.specs.Naming.{Each, AreNames}
use Rattle.base_values.proofs.Options.{and_then_some, if_some, when_some, each_all}
use Rattle.base_text.specs.declared.base.BaseModule.{BaseModule}
use Rattle.base_text.specs.Modules.{names_read, names_if, names_of}
use Rattle.fx_lists.proofs.Texts.{apart_back}
use Rattle.fx_lists.proofs.Booleans.{and_parts, and_from, not_chosen}
use Rattle.f77_meaning.proofs.SymbolNames.{few_names}
use Rattle.fx_lists.proofs.Numbers.{below_true}

-- ---- how a module is read

record ReadWell (r : ReadModule) : Type 0 where
  pub lines : Lines
  pub parsed : parse_of lines ≡ Ok (r.module_is ∷ [])
  pub table : symbols_of r.module_is ≡ Ok r.table

by_table : (lines : Lines) (p : ParsedTree) (t : Result (List SymbolTree) Refusal) (r : ReadModule) → parse_of lines ≡ Ok (p ∷ []) → symbols_of p ≡ t → with_table p t ≡ Some r → ReadWell r
by_table lines p (Err e) r h d k = cc
by_table lines p (Ok t) r h d k =
    let found : ReadModule = record { module_is = p; table = t } in
    let same : found ≡ r = cc in
    subst ReadWell same (record { lines = lines; parsed = h; table = d })

by_trees : (lines : Lines) (ps : Result (List ParsedTree) Refused) (r : ReadModule) → parse_of lines ≡ ps → one_module ps ≡ Some r → ReadWell r
by_trees lines (Err e) r h k = cc
by_trees lines (Ok []) r h k = cc
by_trees lines (Ok (p ∷ [])) r h k = by_table lines p (symbols_of p) r h refl k
by_trees lines (Ok (p ∷ q ∷ ps)) r h k = cc

by_lines : (l : Result Lines (ℕ × ℕ)) (r : ReadModule) → one_module (and_then (lines_or l) parse_of) ≡ Some r → ReadWell r
by_lines (Err at) r k = cc
by_lines (Ok lines) r k = by_trees lines (parse_of lines) r refl k

read_well : (text : List ℕ) (r : ReadModule) → module_read text ≡ Some r → ReadWell r
read_well text r k = by_lines (reading text) r k

-- ---- each name is a word

same_word : (x : List ℕ) → is_word x ≡ is_name x
same_word [] = refl
same_word (c ∷ cs) = refl

words_are : (xs : List (List ℕ)) → Each (λ x. is_word x ≡ true) xs → Each (λ x. is_name x ≡ true) xs
words_are [] h = tt
words_are (x ∷ xs) h = (sym (same_word x) ∙ h.0, words_are xs h.1)

-- ---- and comes once

pub none_more : (n : ℕ) (before : List (List ℕ)) (k j : List ℕ) → bytes_eq j k ≡ false → number_from n before j ≡ None → number_from n (before ++ k ∷ []) j ≡ None
none_more n [] k j f e = not_chosen (bytes_eq j k) (Some n) None f
none_more n (y ∷ ys) k j f e = go (bytes_eq j y) e (none_more (suc n) ys k j f)
  where
    go : (b : Bool) → (if b then Some n else number_from (suc n) ys j) ≡ None → (number_from (suc n) ys j ≡ None → number_from (suc n) (ys ++ k ∷ []) j ≡ None)
        → (if b then Some n else number_from (suc n) (ys ++ k ∷ []) j) ≡ None
    go true g ih = cc
    go false g ih = ih g

none_later : (before : List (List ℕ)) (k : List ℕ) (ks : List (List ℕ)) → AllByRecursion (λ y. bytes_eq k y ≡ false) ks → Each (λ j. number_from 1 before j ≡ None) ks
    → Each (λ j. number_from 1 (before ++ k ∷ []) j ≡ None) ks
none_later before k [] d h = tt
none_later before k (j ∷ js) d h = (none_more 1 before k j (apart_back k j d.0) h.0, none_later before k js d.1 h.1)

new_after : (before ks : List (List ℕ)) → IsDistinct bytes_eq ks → Each (λ j. number_from 1 before j ≡ None) ks → are_new before ks ≡ true
unfolding IsDistinct
new_after before [] d h = refl
new_after before (k ∷ ks) d h =
    and_from (is_none (number_from 1 before k)) (are_new (before ++ k ∷ []) ks) (ap is_none h.0) (new_after (before ++ k ∷ []) ks d.1 (none_later before k ks d.0 h.1))

none_before : (ks : List (List ℕ)) → Each (λ j. number_from 1 [] j ≡ None) ks
none_before [] = tt
none_before (k ∷ ks) = (refl, none_before ks)

-- ---- the names of a module

read_names : (r : ReadModule) → ReadWell r → length r.table < 2 ^ 32 → AreNames (names_read r).names
read_names r w few = record {
  few = few_names r.table few;
  are = words_are (symbol_names r.table) (each_all is_word (symbol_names r.table) (names_are_words w.lines (r.module_is ∷ []) (r.table ∷ []) w.parsed (w.table, tt) 0 r.table (omega arith)));
  once = new_after [] (symbol_names r.table) (names_are_distinct r.module_is r.table w.table) (none_before (symbol_names r.table));
}

-- the names of the symbols of a module of a base
pub module_has_names : (m : BaseModule) (n : ModuleNames) → names_of m ≡ Some n → AreNames n.names
module_has_names m n e =
    let a = if_some (nat_le (length m.text) 16777216) (option_and_then (names_if m.name) (module_read m.text)) n e in
    let b = and_then_some (names_if m.name) (module_read m.text) n a.1 in
    let r : ReadModule = b.0 in
    let c = when_some (bytes_eq r.module_is.module_read.name m.name && nat_lt (length r.table) 4294967296) (names_read r) n b.2 in
    let d = and_parts (bytes_eq r.module_is.module_read.name m.name) (nat_lt (length r.table) 4294967296) c.0 in
    subst (λ (k : ModuleNames). AreNames k.names) c.1 (read_names r (read_well m.text r b.1) (below_true (length r.table) 4294967296 d.1))
