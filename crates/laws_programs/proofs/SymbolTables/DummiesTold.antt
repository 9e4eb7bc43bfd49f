-- The dummies of a module are its first names, unless one is refused.
use Rattle.std.proofs.Common.{◌≡◌, ℕ, zero, suc, Bool, true, false, List, [], ◌∷◌, ◌++◌, length, Option, Some, None, ◌⊎◌, inl, inr, refl, sym, ap, ◌∙◌, append_assoc, append-nil}
use Rattle.std.specs.Prelude.{if◌then◌else◌, bytes_eq, is_some}
use Rattle.std.proofs.lemmas.Slice.Eq.{bytes_eq-Decides}
use Rattle.f77_ast.specs.DeclTrees.{ModuleTree}
use Rattle.f77_names.specs.declared.functions.Function.{Function}
use Rattle.f77_names.specs.declared.lines.Sited.TheVariants.{Title}
use Rattle.fx_lists.specs.declared.code.Code.TheVariants.{DeclaredTwice}
use Rattle.f77_names.specs.Lines.{LineTable, line_or}
use Rattle.f77_names.specs.Functions.{arrays_named}
use Rattle.f77_names.specs.Kinds.{kinds_of}
use Rattle.f77_names.specs.Entries.{EntryTree, fresh, find, seen, changed, of_entry, has_dummy, with_dummy}
use Rattle.f77_names.specs.Declaring.{Told, dummy_told, dummies_told, decls_told}
use Rattle.f77_names.specs.Tables.{NameTable, no_names, title_told, told_of, table_of, check_names}
use Rattle.laws_programs.proofs.SymbolTables.NameRefusals.{decls_back, dummies_back, form_back, entries_back}
use Rattle.laws_programs.proofs.SymbolTables.KeptNames.{form_keeps, decls_keep, stmts_keep}
use Rattle.laws_programs.proofs.SymbolTables.Marks.{Dummies, mark, marks, nones, dummy_marks, seen_dummies, said_dummies}
use Rattle.fx_lists.proofs.Refused.{none_refused}

-- ---- one dummy more

-- each name is a dummy
abbrev AllDummies : List EntryTree → Type 0
AllDummies es = (y : List ℕ) (e : EntryTree) → find y es ≡ Some e → is_some e.dummy ≡ true

abbrev the_dummy : List ℕ → ℕ → ℕ → EntryTree
the_dummy x line n = with_dummy n (fresh x line)

is_that : (o : Option EntryTree) → is_some o ≡ true → (e : EntryTree) × (o ≡ Some e)
is_that None h = cc
is_that (Some e) h = (e, refl)

last_changed : (x : List ℕ) (line n : ℕ) (es : List EntryTree) → is_some (find x es) ≡ false → changed x (with_dummy n) (es ++ fresh x line ∷ []) ≡ es ++ the_dummy x line n ∷ []
unfolding find
last_changed x line n [] h = ap (λ b. if b then the_dummy x line n ∷ [] else fresh x line ∷ []) ((bytes_eq-Decides x x).1 refl)
last_changed x line n (e ∷ es) h = go (bytes_eq x e.name) h (last_changed x line n es)
  where
    go : (b : Bool) → is_some (if b then Some e else find x es) ≡ false → (is_some (find x es) ≡ false → changed x (with_dummy n) (es ++ fresh x line ∷ []) ≡ es ++ the_dummy x line n ∷ []) → (if b then with_dummy n e ∷ (es ++ fresh x line ∷ []) else e ∷ changed x (with_dummy n) (es ++ fresh x line ∷ [])) ≡ e ∷ (es ++ the_dummy x line n ∷ [])
    go true k ih = cc
    go false k ih = ap (λ ds. e ∷ ds) (ih k)

-- a name that is no dummy yet is new
one_more : (x : List ℕ) (line n : ℕ) (es : List EntryTree) → AllDummies es → has_dummy x (seen x line es) ≡ false → changed x (with_dummy n) (seen x line es) ≡ es ++ the_dummy x line n ∷ []
one_more x line n es all h = go (is_some (find x es)) refl h
  where
    go : (b : Bool) → is_some (find x es) ≡ b → has_dummy x (if b then es else es ++ fresh x line ∷ []) ≡ false → changed x (with_dummy n) (if b then es else es ++ fresh x line ∷ []) ≡ es ++ the_dummy x line n ∷ []
    go true e k =
        let found = is_that (find x es) e in
        let yes = all x found.0 found.1 in
        let no = sym (ap (of_entry false (λ z. is_some z.dummy)) found.1) ∙ k in
        let never : true ≡ false = sym yes ∙ no in
        cc
    go false e k = last_changed x line n es e

pub found_in : (y : List ℕ) (es : List EntryTree) (z e : EntryTree) → find y (es ++ z ∷ []) ≡ Some e → (find y es ≡ Some e) ⊎ (z ≡ e)
unfolding find
found_in y [] z e h = go (bytes_eq y z.name) h
  where
    go : (b : Bool) → (if b then Some z else None) ≡ Some e → (None ≡ Some e) ⊎ (z ≡ e)
    go true k = let same : z ≡ e = cc in inr same
    go false k = cc
found_in y (x ∷ es) z e h = go (bytes_eq y x.name) h (found_in y es z e)
  where
    go : (b : Bool) → (if b then Some x else find y (es ++ z ∷ [])) ≡ Some e → (find y (es ++ z ∷ []) ≡ Some e → (find y es ≡ Some e) ⊎ (z ≡ e)) → ((if b then Some x else find y es) ≡ Some e) ⊎ (z ≡ e)
    go true k ih = inl k
    go false k ih = ih k

all_more : (x : List ℕ) (line n : ℕ) (es : List EntryTree) → AllDummies es → AllDummies (es ++ the_dummy x line n ∷ [])
all_more x line n es all y e h = go (found_in y es (the_dummy x line n) e h)
  where
    go : (find y es ≡ Some e) ⊎ (the_dummy x line n ≡ e) → is_some e.dummy ≡ true
    go (inl k) = all y e k
    go (inr k) = ap (λ z. is_some z.dummy) (sym k)

-- ---- all dummies

marks-last : (es : List EntryTree) (e : EntryTree) → marks (es ++ e ∷ []) ≡ marks es ++ mark e ∷ []
marks-last [] e = refl
marks-last (x ∷ es) e = ap (λ ms. mark x ∷ ms) (marks-last es e)

all_told : (xs : List (List ℕ)) (n line : ℕ) (t : Told) → AllDummies t.entries → (dummies_told xs n line t).found ≡ None → marks (dummies_told xs n line t).entries ≡ marks t.entries ++ dummy_marks n (length xs)
all_told [] n line t all e = sym (append-nil (marks t.entries))
all_told (x ∷ xs) n line t all e =
    let first = dummies_back xs (suc n) line (dummy_told x n line t) e in
    let new = none_refused (has_dummy x (seen x line t.entries)) line DeclaredTwice t.found first in
    let is = one_more x line n t.entries all new.0 in
    let more = λ (y : List ℕ) (z : EntryTree) (h : find y (dummy_told x n line t).entries ≡ Some z). all_more x line n t.entries all y z (ap (find y) (sym is) ∙ h) in
    all_told xs (suc n) line (dummy_told x n line t) more e
    ∙ ap (λ ms. ms ++ dummy_marks (suc n) (length xs)) (ap marks is ∙ marks-last t.entries (the_dummy x line n))
    ∙ append_assoc (marks t.entries) (Some (n, None) ∷ []) (dummy_marks (suc n) (length xs))

none_yet : AllDummies []
unfolding find
none_yet y e h = cc

-- ---- the names of a module

pub told_dummies : (fs : List Function) (at : LineTable) (m : ModuleTree) → (told_of fs at m).found ≡ None → Dummies (length m.dummies) (told_of fs at m).entries
told_dummies fs at m e =
    let n = length m.dummies in
    let t = dummies_told m.dummies 1 (line_or at Title 0) no_names in
    let u = title_told at m in
    let quiet = form_back m.function m.name (line_or at Title 0) t (decls_back fs at m.decls 0 u e) in
    let begin : Dummies n t.entries = record { others = 0; are = all_told m.dummies 1 (line_or at Title 0) no_names none_yet quiet ∙ sym (append-nil (dummy_marks 1 n)) } in
    stmts_keep (Dummies n) (seen_dummies n) (said_dummies n) fs at m.body 0 (decls_told fs at m.decls 0 u).entries
    (decls_keep (Dummies n) (seen_dummies n) (said_dummies n) fs at m.decls 0 u (form_keeps (Dummies n) (seen_dummies n) (said_dummies n) fs m.function m.name (line_or at Title 0) t begin))

pub table_dummies : (at : LineTable) (m : ModuleTree) → check_names at m ≡ None → Dummies (length m.dummies) (table_of at m).entries
table_dummies at m e = told_dummies (arrays_named m.decls) at m (entries_back (kinds_of m.decls) (told_of (arrays_named m.decls) at m).entries (told_of (arrays_named m.decls) at m).found e)
