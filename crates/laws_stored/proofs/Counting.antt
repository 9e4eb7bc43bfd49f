-- A module that is read has no more symbols than its statements have characters.
use Rattle.std.proofs.Common.{◌≡◌, ℕ, ◌+◌, ◌<◌, ◌≤◌, arith, ◌⊎◌, inl, inr, Bool, true, false, List, [], ◌∷◌, ◌++◌, length, nat_eq, Option, Some, None, Result, Ok, Err, refl, sym, ap, ◌∙◌, subst}
use Rattle.std.specs.Prelude.{if◌then◌else◌, nat_lt, nat_le, sum_by, bytes_eq}
use Rattle.std.specs.List.{IsDistinct, AllByRecursion, list_all}
use Rattle.std.specs.Char.{is_ascii_uppercase}
use Rattle.std.proofs.lemmas.Bool.{and_parts}
use Rattle.std.proofs.lemmas.Bool.Decides.{nat_tests}
use Rattle.std.proofs.lemmas.List.Sums.{sum_by-cons}
use Rattle.std.proofs.lemmas.Slice.Eq.{bytes_eq-Decides}
use Rattle.fixed_form.specs.declared.line.Line.{Line}
use Rattle.fixed_form.specs.declared.line.Lines.{Lines}
use Rattle.f77_ast.specs.DeclTrees.{ParsedTree}
use Rattle.f77_statements.specs.declared.refusal.Cause.{Cause}
use Rattle.f77_statements.specs.Phrases.{PhraseTree, program, subroutine, function, specification, simple, logical_if, block_if, else_if, else_part, end_if, do_head, while_head, end_do, end_module}
use Rattle.f77_statements.specs.Statements.{phrase_of}
use Rattle.f77_structure.specs.Checks.{fault_of}
use Rattle.f77_structure.specs.Depth.{is_deep}
use Rattle.f77_structure.specs.Lists.{is_none_of}
use Rattle.f77_parser.specs.Gives.{Refused, and_then}
use Rattle.f77_parser.specs.Statements.{StatementTree, read_as, all_read, marks_of, length_of, characters}
use Rattle.f77_parser.specs.Building.{build_module}
use Rattle.f77_parser.specs.Ends.{ends_module}
use Rattle.f77_parser.specs.Modules.{module_fault, statements_in, closing_at, unless_faulty, module_read, modules_from, parse_of}
use Rattle.f77_ast.specs.Symbols.{SymbolTree}
use Rattle.f77_meaning.specs.Modules.{symbol_names}
use Rattle.fx_lists.specs.declared.refusal.Refusal.{Refusal}
use Rattle.storage_layout.specs.Symbols.{symbols_of}
use Rattle.laws_programs.specs.roundtrip_programs.Statements.Formed.{Each}
use Rattle.laws_programs.specs.roundtrip_programs.Statements.Phrased.{IsPhrase}
use Rattle.laws_programs.specs.roundtrip_programs.Statements.Written.{as_written}
use Rattle.laws_programs.proofs.RoundtripPrograms.Statements.Phrases.{statements_read_back}
use Rattle.laws_programs.specs.roundtrip_programs.ModuleTexts.Cards.{statements_of}
use Rattle.laws_programs.proofs.RoundtripPrograms.ModuleTexts.Kept.{Kind, Stated, all_held, Each-append, each-map}
use Rattle.laws_programs.proofs.RoundtripPrograms.Assigned.{no-fault, read-well}
use Rattle.laws_programs.proofs.RoundtripPrograms.Written.Read.{only-end}
use Rattle.laws_programs.proofs.Sources.{IsBuilt}
use Rattle.laws_lines.proofs.TableNames.{names_are_distinct}
use Rattle.base_json.specs.Scopes.{in_name, is_name}
use Rattle.session_texts.proofs.Sizes.{characters-few}
use Rattle.laws_stored.specs.Laws.{ShortTextsAreCounted}
use Rattle.laws_stored.proofs.Symbols.{names_long}
use Rattle.laws_stored.proofs.ShortNames.{IsWord, symbols_words}
use Rattle.laws_stored.proofs.NamesIn.{dark, size, size-append, all_names, phrase_names, names_short}
use Rattle.laws_stored.proofs.KnownNames.{IsNaming, AreNaming, symbols_in}
use Rattle.laws_stored.proofs.Texts.{IsReadAs}
use Rattle.laws_stored.proofs.Texts as texts
use Rattle.laws_programs.proofs.RoundtripPrograms.ModuleTexts.Cards.{Any as AnyLabel}

-- ---- lists without a name twice

abbrev Has : List ℕ → List (List ℕ) → Type 0
Has x [] = ⊥
Has x (y ∷ ys) = (x ≡ y) ⊎ Has x ys

-- without a name
abbrev without : List ℕ → List (List ℕ) → List (List ℕ)
without n [] = []
without n (x ∷ xs) = if bytes_eq n x then without n xs else x ∷ without n xs

abbrev Apart : List ℕ → List (List ℕ) → Type 0
Apart x ys = Each (λ y. bytes_eq x y ≡ false) ys

abbrev Distinct : List (List ℕ) → Type 0
Distinct [] = Unit {0}
Distinct (x ∷ xs) = Apart x xs × Distinct xs

as_apart : (x : List ℕ) (ys : List (List ℕ)) → AllByRecursion (λ y. bytes_eq x y ≡ false) ys → Apart x ys
as_apart x [] h = tt
as_apart x (y ∷ ys) h = record { first = h.0; others = as_apart x ys h.1 }

as_distinct : (xs : List (List ℕ)) → IsDistinct bytes_eq xs → Distinct xs
unfolding IsDistinct
as_distinct [] h = tt
as_distinct (x ∷ xs) h = (as_apart x xs h.0, as_distinct xs h.1)

apart_still : (n x : List ℕ) (ys : List (List ℕ)) → Apart x ys → Apart x (without n ys)
apart_still n x [] h = tt
apart_still n x (y ∷ ys) h = go (bytes_eq n y) (apart_still n x ys h.others)
  where
    go : (b : Bool) → Apart x (without n ys) → Apart x (if b then without n ys else y ∷ without n ys)
    go true ih = ih
    go false ih = record { first = h.first; others = ih }

distinct_still : (n : List ℕ) (xs : List (List ℕ)) → Distinct xs → Distinct (without n xs)
distinct_still n [] h = tt
distinct_still n (x ∷ xs) h = go (bytes_eq n x) (distinct_still n xs h.1)
  where
    go : (b : Bool) → Distinct (without n xs) → Distinct (if b then without n xs else x ∷ without n xs)
    go true ih = ih
    go false ih = (apart_still n x xs h.0, ih)

none_left_out : (n : List ℕ) (xs : List (List ℕ)) → Apart n xs → length xs ≤ length (without n xs)
none_left_out n [] h = omega arith
none_left_out n (x ∷ xs) h = go (bytes_eq n x) refl (none_left_out n xs h.others)
  where
    go : (b : Bool) → bytes_eq n x ≡ b → length xs ≤ length (without n xs) → length (x ∷ xs) ≤ length (if b then without n xs else x ∷ without n xs)
    go true e ih = let f : true ≡ false = sym e ∙ h.first in cc
    go false e ih = omega (arith, ih)

one_left_out : (n : List ℕ) (xs : List (List ℕ)) → Distinct xs → length xs ≤ 1 + length (without n xs)
one_left_out n [] h = omega arith
one_left_out n (x ∷ xs) h = go (bytes_eq n x) refl (one_left_out n xs h.1)
  where
    go : (b : Bool) → bytes_eq n x ≡ b → length xs ≤ 1 + length (without n xs) → length (x ∷ xs) ≤ 1 + length (if b then without n xs else x ∷ without n xs)
    go true e ih = let same : n ≡ x = (bytes_eq-Decides n x).0 e in let l = none_left_out n xs (subst (λ z. Apart z xs) (sym same) h.0) in omega (arith, l)
    go false e ih = omega (arith, ih)

others_there : (n : List ℕ) (ns xs : List (List ℕ)) → Each (λ x. Has x (n ∷ ns)) xs → Each (λ x. Has x ns) (without n xs)
others_there n ns [] h = tt
others_there n ns (x ∷ xs) h = go (bytes_eq n x) refl (others_there n ns xs h.others)
  where
    there : bytes_eq n x ≡ false → Has x (n ∷ ns) → Has x ns
    there e (inl q) = let f : true ≡ false = sym ((bytes_eq-Decides n x).1 (sym q)) ∙ e in cc
    there e (inr q) = q

    go : (b : Bool) → bytes_eq n x ≡ b → Each (λ y. Has y ns) (without n xs) → Each (λ y. Has y ns) (if b then without n xs else x ∷ without n xs)
    go true e ih = ih
    go false e ih = record { first = there e h.first; others = ih }

-- they are no more than those among which they are
no_more : (ns xs : List (List ℕ)) → Distinct xs → Each (λ x. Has x ns) xs → length xs ≤ length ns
no_more [] [] d h = omega arith
no_more [] (x ∷ xs) d h = absurd h.first
no_more (n ∷ ns) xs d h = let l = one_left_out n xs d in let ih = no_more ns (without n xs) (distinct_still n xs d) (others_there n ns xs h) in omega (arith, l, ih)

-- ---- names with a character

abbrev fulls : List (List ℕ) → List (List ℕ)
fulls [] = []
fulls (x ∷ xs) = if nat_lt 0 (dark x) then x ∷ fulls xs else fulls xs

few_full : (xs : List (List ℕ)) → length (fulls xs) ≤ size xs
few_full [] = omega arith
few_full (x ∷ xs) = go (nat_lt 0 (dark x)) refl (few_full xs)
  where
    above : nat_lt 0 (dark x) ≡ true → 0 < dark x
    above e = grind (arith, nat_tests)

    go : (b : Bool) → nat_lt 0 (dark x) ≡ b → length (fulls xs) ≤ size xs → length (if b then x ∷ fulls xs else fulls xs) ≤ dark x + size xs
    go true e ih = let l = above e in omega (arith, l, ih)
    go false e ih = omega (arith, ih)

-- one of these, or none with a character
abbrev Known : List (List ℕ) → List ℕ → Type 0
Known ns x = (dark x ≡ 0) ⊎ Has x ns

known_full : (xs : List (List ℕ)) → Each (Known (fulls xs)) xs
known_full [] = tt
known_full (x ∷ xs) = go (nat_lt 0 (dark x)) refl (known_full xs)
  where
    none : nat_lt 0 (dark x) ≡ false → dark x ≡ 0
    none e = grind (arith, nat_tests)

    more : (y : List ℕ) → Known (fulls xs) y → Known (x ∷ fulls xs) y
    more y (inl e) = inl e
    more y (inr h) = inr (inr h)

    go : (b : Bool) → nat_lt 0 (dark x) ≡ b → Each (Known (fulls xs)) xs → Each (Known (if b then x ∷ fulls xs else fulls xs)) (x ∷ xs)
    go true e ih = record { first = inr (inl refl); others = each-map (Known (fulls xs)) (Known (x ∷ fulls xs)) xs more ih }
    go false e ih = record { first = inl (none e); others = ih }

abbrev by_blank : Bool → ℕ
by_blank b = (if b then 0 else 1) + 0

capital_dark : (c : ℕ) (cs : List ℕ) → is_ascii_uppercase c ≡ true → 0 < dark (c ∷ cs)
capital_dark c cs h = let o : dark (c ∷ []) ≡ 1 = ap by_blank no_blank in omega (arith, o)
  where
    no_blank : nat_eq c 32 ≡ false
    no_blank = let l = (and_parts (nat_le 65 c) (nat_le c 90) h).0 in grind (arith, nat_tests)

word_dark : (x : List ℕ) → IsWord x → 0 < dark x
word_dark [] h = cc
word_dark (c ∷ cs) h =
    let n = (and_parts (is_name (c ∷ cs)) (nat_le (length (c ∷ cs)) 31) h).0 in capital_dark c cs (and_parts (is_ascii_uppercase c) (list_all in_name cs) n).0

words_there : (ns xs : List (List ℕ)) → Each IsWord xs → Each (Known ns) xs → Each (λ x. Has x ns) xs
words_there ns [] w h = tt
words_there ns (x ∷ xs) w h = record { first = there h.first; others = words_there ns xs w.others h.others }
  where
    there : Known ns x → Has x ns
    there (inl e) = let l = word_dark x w.first in absurd (omega (arith, l, e))
    there (inr q) = q

-- ---- statements

abbrev statement_names : StatementTree → List (List ℕ)
statement_names s = phrase_names s.phrase

more_names : (done : List StatementTree) (s : StatementTree) → size (all_names statement_names (done ++ s ∷ [])) ≡ size (all_names statement_names done) + size (statement_names s)
more_names [] s = let e = size-append (statement_names s) [] in omega (arith, e)
more_names (d ∷ done) s =
    let a = size-append (statement_names d) (all_names statement_names (done ++ s ∷ [])) in
    let b = size-append (statement_names d) (all_names statement_names done) in
    let ih = more_names done s in
    omega (arith, a, b, ih)

-- statements that are read are formed as the grammar says, and have no more names than characters
record AreShort (done : List StatementTree) (ls : List Line) (ss : List StatementTree) : Type 0 where
  formed : Each (λ (s : StatementTree). IsPhrase s.phrase) ss
  short : size (all_names statement_names ss) ≤ size (all_names statement_names done) + sum_by length_of ls

read_short : (ls : List Line) (done ss : List StatementTree) → Each (λ (s : StatementTree). IsPhrase s.phrase) done → all_read done ls ≡ Ok ss → AreShort done ls ss
read_short [] done ss d h = let same : done ≡ ss = cc in record { formed = subst (Each (λ (s : StatementTree). IsPhrase s.phrase)) same d; short = subst (λ (z : List StatementTree). size (all_names statement_names z) ≤ size (all_names statement_names done) + sum_by length_of []) same (omega arith) }
read_short (l ∷ ls) done ss d h = go (phrase_of l.body) refl h (λ more f g. read_short ls more ss f g)
  where
    go : (r : Result PhraseTree Cause) → phrase_of l.body ≡ r → and_then (read_as l r) (λ s. all_read (done ++ s ∷ []) ls) ≡ Ok ss → ((more : List StatementTree) → Each (λ (s : StatementTree). IsPhrase s.phrase) more → all_read more ls ≡ Ok ss → AreShort more ls ss) → AreShort done (l ∷ ls) ss
    go (Ok p) e g ih =
        let s : StatementTree = record { first = l.first; label = l.label; deep = is_deep l.body; comments = l.comments; phrase = p } in
        let f = statements_read_back.formed l.body p e in
        let r = ih (done ++ s ∷ []) (Each-append (λ (z : StatementTree). IsPhrase z.phrase) done (s ∷ []) d (record { first = f; others = tt })) g in
        let a = r.short in
        let b = more_names done s in
        let c = names_short l.body p e in
        let k = sum_by-cons length_of l ls in
        record { formed = r.formed; short = omega (arith, a, b, c, k) }
    go (Err c) e g ih = cc

-- ---- modules

module _ (Name : List ℕ → Type 0) where
  abbrev Q : StatementTree → Type 0
  Q s = IsNaming Name s.phrase

  abbrev P : ParsedTree → Type 0
  P p = AreNaming Name (statements_of p.module_read)

  written : (p : PhraseTree) → IsNaming Name p → IsNaming Name (as_written p)
  written (program n) h = h
  written (subroutine n ds) h = h
  written (function form n ds) h = h
  written (specification d) h = h
  written (simple w) h = h
  written (logical_if e w) h = h
  written (block_if e) h = h
  written (else_if e) h = h
  written else_part h = h
  written end_if h = h
  written (do_head d) h = (record { index = h.0.index; first = h.0.first; last = h.0.last; step = h.0.step }, h.1)
  written (while_head l e) h = h
  written end_do h = h
  written end_module h = h

  kind : Kind AnyLabel (IsNaming Name) (IsNaming Name)
  kind = record {
    bare = tt;
    formed = λ p h. h.0;
    written = written;
    first = λ e h. h;
    otherwise = (tt, tt);
    end_branches = (tt, tt);
    end_loop = (tt, tt);
    end_all = (tt, tt);
    labelled = (tt, tt);
  }

  built_naming : (closing : List (List ℕ)) (begun : List StatementTree) (s : StatementTree) → s.phrase ≡ end_module → Each Q (begun ++ s ∷ []) → fault_of (marks_of (begun ++ s ∷ [])) ≡ None
      → P (build_module closing (begun ++ s ∷ []))
  built_naming closing begun s e h f =
      all_held AnyLabel (IsNaming Name) (IsNaming Name) kind closing begun s e (each-map Q (Stated AnyLabel (IsNaming Name)) (begun ++ s ∷ []) (λ x i. (tt, i)) h) f

  faultless : (f : Option Refusal) (q : ParsedTree) (k : ParsedTree → Result (List ParsedTree) Refused) (ps : List ParsedTree) → and_then (unless_faulty f q) k ≡ Ok ps
      → (f ≡ None → k q ≡ Ok ps → Each P ps) → Each P ps
  faultless None q k ps h g = g refl h
  faultless (Some f) q k ps h g = cc

  choice : (b : Bool) (x y : Result (List ParsedTree) Refused) (ps : List ParsedTree) → (if b then x else y) ≡ Ok ps
      → (b ≡ true → x ≡ Ok ps → Each P ps) → (y ≡ Ok ps → Each P ps) → Each P ps
  choice true x y ps h f g = f refl h
  choice false x y ps h f g = g h

  modules_naming : (closing : List (List ℕ)) (ss : List StatementTree) (done ps : List ParsedTree) (begun : List StatementTree) → Each P done → Each Q begun → Each Q ss → modules_from closing done begun ss ≡ Ok ps → Each P ps
  modules_naming closing [] done ps begun d b i h = let same : done ≡ ps = cc in subst (Each P) same d
  modules_naming closing (s ∷ ss) done ps begun d b i h =
      let whole = begun ++ s ∷ [] in
      let own = closing_at (is_none_of ss) closing in
      let more : Each Q whole = Each-append Q begun (s ∷ []) b (record { first = i.first; others = tt }) in
      choice (ends_module s.phrase)
      (and_then (module_read own whole) (λ p. modules_from closing (done ++ p ∷ []) [] ss)) (modules_from closing done whole ss) ps h
      (λ e g. faultless (module_fault whole) (build_module own whole) (λ p. modules_from closing (done ++ p ∷ []) [] ss) ps g
      (λ f x. modules_naming closing ss (done ++ build_module own whole ∷ []) ps []
      (Each-append P done (build_module own whole ∷ []) d (record { first = built_naming own begun s (only-end s.phrase e) more (no-fault whole f).structure; others = tt })) tt i.others x))
      (λ g. modules_naming closing ss done ps whole d more i.others g)

each_statement : (K : List ℕ → Type 0) (ss : List StatementTree) → Each (λ (s : StatementTree). IsPhrase s.phrase) ss → Each K (all_names statement_names ss) → Each (Q K) ss
each_statement K [] f h = tt
each_statement K (s ∷ ss) f h = let r = parts (statement_names s) h in record { first = (f.first, r.0); others = each_statement K ss f.others r.1 }
  where
    parts : (xs : List (List ℕ)) → Each K (xs ++ all_names statement_names ss) → Each K xs × Each K (all_names statement_names ss)
    parts [] g = (tt, g)
    parts (x ∷ xs) g = let r = parts xs g.others in (record { first = g.first; others = r.0 }, r.1)

-- ---- a module that is read alone

symbols_few : (lines : Lines) (p : ParsedTree) (table : List SymbolTree) → IsBuilt p → parse_of lines ≡ Ok (p ∷ []) → symbols_of p ≡ Ok table → length (symbol_names table) ≤ characters lines
unfolding parse_of
symbols_few lines p table b h e = go (statements_in lines.lines) refl h
  where
    go : (r : Result (List StatementTree) Refused) → statements_in lines.lines ≡ r → and_then r (λ ss. modules_from lines.closing [] [] ss) ≡ Ok (p ∷ []) → length (symbol_names table) ≤ characters lines
    go (Ok ss) q g =
        let a = read_short lines.lines [] ss tt (read-well lines.lines ss q).all in
        let all = all_names statement_names ss in
        let K : List ℕ → Type 0 = Known (fulls all) in
        let named = modules_naming K lines.closing ss [] (p ∷ []) [] tt tt (each_statement K ss a.formed (known_full all)) g in
        let there = words_there (fulls all) (symbol_names table) (symbols_words p table b e) (symbols_in K p table b named.first e) in
        let l = no_more (fulls all) (symbol_names table) (as_distinct (symbol_names table) (names_are_distinct p table e)) there in
        let m = few_full all in
        let n = a.short in
        omega (arith, l, m, n)
    go (Err x) q g = cc

pub short_texts_are_counted : ShortTextsAreCounted
short_texts_are_counted text m h s =
    let r = texts.read_as text m h in
    let a = symbols_few r.lines m.module_is m.table r.built r.parsed r.tabled in
    let b = characters-few text r.lines r.lined s in
    let c = names_long m.table in
    omega (arith, a, b, c)
