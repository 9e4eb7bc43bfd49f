-- Faults of assignments of the value of a function: they go by what statements say, and by the module in which they stand.
use Rattle.std.proofs.Common.{◌≡◌, ℕ, Bool, true, false, List, [], ◌∷◌, ◌++◌, map, Option, Some, None, Result, Ok, Err, refl, sym, ap, ◌∙◌, append_assoc, append-nil}
use Rattle.std.specs.Prelude.{if◌then◌else◌, nat_lt}
use Rattle.fixed_form.specs.declared.line.Line.{Line}
use Rattle.fx_lists.specs.declared.code.Code.TheVariants.{StrayPart}
use Rattle.f77_statements.specs.declared.refusal.Cause.TheVariants.{Syntax}
use Rattle.f77_statements.specs.Phrases.{PhraseTree}
use Rattle.f77_structure.specs.Checks.{fault_of}
use Rattle.f77_parser.specs.Gives.{Refused, and_then}
use Rattle.f77_parser.specs.Statements.{StatementTree, statement_of, refusal_at, all_read, with_read, those_read, marks_of}
use Rattle.f77_parser.specs.Functions.{bounded_names}
use Rattle.f77_parser.specs.Ends.{ends_module, decls_by, decls_to_end}
use Rattle.f77_parser.specs.Standing.{phrase_names, statement_names, heading_names, title_names, standing}
use Rattle.f77_parser.specs.References.{assigned_by, is_bad_call, empty_call_from, empty_call_fault, is_bad_reference, bad_reference_from, reference_fault}
use Rattle.f77_parser.specs.Modules.{with_reference, module_fault, unless_called, statements_in}
use Rattle.fx_lists.proofs.Refused.{none_refused}
use Rattle.roundtrip_programs.specs.Statements.Formed.{Each}

-- ---- no fault of a module

pub record NoFault (ss : List StatementTree) : Type 0 where
  pub structure : fault_of (marks_of ss) ≡ None
  pub references : reference_fault ss ≡ None

no-fault-by : (ss : List StatementTree) (o : Option ℕ) → reference_fault ss ≡ o → with_reference o (fault_of (marks_of ss)) ≡ None → NoFault ss
no-fault-by ss None e h = record { structure = h; references = e }
no-fault-by ss (Some line) e h = let wrong = (none_refused true line StrayPart (fault_of (marks_of ss)) h).0 in cc

pub no-fault : (ss : List StatementTree) → module_fault ss ≡ None → NoFault ss
no-fault ss h = no-fault-by ss (reference_fault ss) refl h

pub faultless : (ss : List StatementTree) → fault_of (marks_of ss) ≡ None → reference_fault ss ≡ None → module_fault ss ≡ None
faultless ss h r = ap (λ o. with_reference o (fault_of (marks_of ss))) r ∙ h

-- ---- no F() that is none of a function

pub record ReadWell (ls : List Line) (ss : List StatementTree) : Type 0 where
  pub all : all_read [] ls ≡ Ok ss
  pub calls : empty_call_fault ss ≡ None

those-by : (l : Line) (ls : List Line) (done ss : List StatementTree) (r : Result StatementTree Refused) → statement_of l ≡ r → and_then r (λ s. all_read (done ++ s ∷ []) ls) ≡ Ok ss
    → ((s : StatementTree) → all_read (done ++ s ∷ []) ls ≡ Ok ss → ss ≡ (done ++ s ∷ []) ++ those_read ls) → ss ≡ done ++ with_read r (those_read ls)
those-by l ls done ss (Ok s) e h ih = ih s h ∙ append_assoc done (s ∷ []) (those_read ls)
those-by l ls done ss (Err r) e h ih = cc

those-all : (ls : List Line) (done ss : List StatementTree) → all_read done ls ≡ Ok ss → ss ≡ done ++ those_read ls
those-all [] done ss h = let same : done ≡ ss = cc in sym same ∙ sym (append-nil done)
those-all (l ∷ ls) done ss h = those-by l ls done ss (statement_of l) refl h (λ s g. those-all ls (done ++ s ∷ []) ss g)

uncalled-by : (o : Option ℕ) (r : Result (List StatementTree) Refused) (ss : List StatementTree) → unless_called o r ≡ Ok ss → (o ≡ None) × (r ≡ Ok ss)
uncalled-by None r ss h = (refl, h)
uncalled-by (Some line) (Ok xs) ss h = cc
uncalled-by (Some line) (Err r) ss h = go (nat_lt line r.line) h
  where
    go : (b : Bool) → (if b then Err (refusal_at line Syntax) else Err r) ≡ Ok ss → (Some line ≡ None) × (Err r ≡ Ok ss)
    go true e = cc
    go false e = cc

pub read-well : (ls : List Line) (ss : List StatementTree) → statements_in ls ≡ Ok ss → ReadWell ls ss
read-well ls ss h =
    let u = uncalled-by (empty_call_fault (those_read ls)) (all_read [] ls) ss h in
    record { all = u.1; calls = ap empty_call_fault (those-all ls [] ss u.1) ∙ u.0 }

pub well-read : (ls : List Line) (ss : List StatementTree) → all_read [] ls ≡ Ok ss → empty_call_fault ss ≡ None → statements_in ls ≡ Ok ss
well-read ls ss h e = ap (λ o. unless_called o (all_read [] ls)) (ap empty_call_fault (sym (those-all ls [] ss h)) ∙ e) ∙ h

-- ---- statements that say the same

abbrev pub phrases : List StatementTree → List PhraseTree
phrases ss = map (λ (s : StatementTree). s.phrase) ss

abbrev IsSame : StatementTree → StatementTree → Type 0
IsSame s t = s.phrase ≡ t.phrase

heads : (s t : StatementTree) (ss ts : List StatementTree) → phrases (s ∷ ss) ≡ phrases (t ∷ ts) → IsSame s t × (phrases ss ≡ phrases ts)
heads s t ss ts h = (cc, cc)

pub same-decls : (ss ts : List StatementTree) → phrases ss ≡ phrases ts → decls_to_end ss ≡ decls_to_end ts
same-decls [] [] h = refl
same-decls [] (t ∷ ts) h = cc
same-decls (s ∷ ss) [] h = cc
same-decls (s ∷ ss) (t ∷ ts) h =
    let e = heads s t ss ts h in
    ap (λ p. if ends_module p then [] else decls_by p ++ decls_to_end ss) e.0 ∙ ap (λ ds. if ends_module t.phrase then [] else decls_by t.phrase ++ ds) (same-decls ss ts e.1)

chosen-none : (b : Bool) (s : ℕ) (o : Option ℕ) → (if b then Some s else o) ≡ None → (b ≡ false) × (o ≡ None)
chosen-none true s o h = cc
chosen-none false s o h = (refl, h)

either-none : (b : Bool) (o p : Option ℕ) (Q : Type 0) → (if b then o else p) ≡ None → (b ≡ true → o ≡ None → Q) → (b ≡ false → p ≡ None → Q) → Q
either-none true o p Q h f g = f refl h
either-none false o p Q h f g = g refl h

same-calls : (bounded : List (List ℕ)) (ss ts : List StatementTree) → phrases ss ≡ phrases ts → empty_call_from bounded ss ≡ None → empty_call_from bounded ts ≡ None
same-calls bounded [] [] h e = refl
same-calls bounded [] (t ∷ ts) h e = cc
same-calls bounded (s ∷ ss) [] h e = cc
same-calls bounded (s ∷ ss) (t ∷ ts) h e =
    let p = heads s t ss ts h in
    let own = chosen-none (is_bad_call bounded (assigned_by s.phrase)) s.first (if ends_module s.phrase then empty_call_from (bounded_names (decls_to_end ss)) ss else empty_call_from bounded ss) e in
    let rest : (if ends_module t.phrase then empty_call_from (bounded_names (decls_to_end ts)) ts else empty_call_from bounded ts) ≡ None =
    either-none (ends_module s.phrase) (empty_call_from (bounded_names (decls_to_end ss)) ss) (empty_call_from bounded ss)
    ((if ends_module t.phrase then empty_call_from (bounded_names (decls_to_end ts)) ts else empty_call_from bounded ts) ≡ None) own.1
    (λ b g. ap (λ c. if c then empty_call_from (bounded_names (decls_to_end ts)) ts else empty_call_from bounded ts) (sym (ap ends_module p.0) ∙ b)
    ∙ same-calls (bounded_names (decls_to_end ts)) ss ts p.1 (ap (λ ds. empty_call_from (bounded_names ds) ss) (sym (same-decls ss ts p.1)) ∙ g))
    (λ b g. ap (λ c. if c then empty_call_from (bounded_names (decls_to_end ts)) ts else empty_call_from bounded ts) (sym (ap ends_module p.0) ∙ b) ∙ same-calls bounded ss ts p.1 g) in
    ap (λ c. if c then Some t.first else if ends_module t.phrase then empty_call_from (bounded_names (decls_to_end ts)) ts else empty_call_from bounded ts)
    (sym (ap (λ q. is_bad_call bounded (assigned_by q)) p.0) ∙ own.0) ∙ rest

pub same-uncalled : (ss ts : List StatementTree) → phrases ss ≡ phrases ts → empty_call_fault ss ≡ None → empty_call_fault ts ≡ None
unfolding empty_call_fault
same-uncalled ss ts h e =
    same-calls (bounded_names (decls_to_end ts)) ss ts h (ap (λ ds. empty_call_from (bounded_names ds) ss) (sym (same-decls ss ts h)) ∙ e)

same-names : (bounded : List (List ℕ)) (ss ts : List StatementTree) → phrases ss ≡ phrases ts → statement_names bounded ss ≡ statement_names bounded ts
same-names bounded [] [] h = refl
same-names bounded [] (t ∷ ts) h = cc
same-names bounded (s ∷ ss) [] h = cc
same-names bounded (s ∷ ss) (t ∷ ts) h =
    let p = heads s t ss ts h in ap (λ q. phrase_names bounded q ++ statement_names bounded ss) p.0 ∙ ap (λ xs. phrase_names bounded t.phrase ++ xs) (same-names bounded ss ts p.1)

same-title : (ss ts : List StatementTree) → phrases ss ≡ phrases ts → title_names ss ≡ title_names ts
same-title [] [] h = refl
same-title [] (t ∷ ts) h = cc
same-title (s ∷ ss) [] h = cc
same-title (s ∷ ss) (t ∷ ts) h = ap heading_names (heads s t ss ts h).0

pub same-standing : (bounded : List (List ℕ)) (ss ts : List StatementTree) → phrases ss ≡ phrases ts → standing bounded ss ≡ standing bounded ts
same-standing bounded ss ts h = ap (λ xs. xs ++ statement_names bounded ss) (same-title ss ts h) ∙ ap (λ xs. title_names ts ++ xs) (same-names bounded ss ts h)

same-references : (bounded names : List (List ℕ)) (ss ts : List StatementTree) → phrases ss ≡ phrases ts → bad_reference_from bounded names ss ≡ None → bad_reference_from bounded names ts ≡ None
same-references bounded names [] [] h e = refl
same-references bounded names [] (t ∷ ts) h e = cc
same-references bounded names (s ∷ ss) [] h e = cc
same-references bounded names (s ∷ ss) (t ∷ ts) h e =
    let p = heads s t ss ts h in
    let own = chosen-none (is_bad_reference bounded names (assigned_by s.phrase)) s.first (bad_reference_from bounded names ss) e in
    ap (λ c. if c then Some t.first else bad_reference_from bounded names ts) (sym (ap (λ q. is_bad_reference bounded names (assigned_by q)) p.0) ∙ own.0) ∙ same-references bounded names ss ts p.1 own.1

pub same-referenced : (ss ts : List StatementTree) → phrases ss ≡ phrases ts → reference_fault ss ≡ None → reference_fault ts ≡ None
unfolding reference_fault
same-referenced ss ts h e =
    let bounded = bounded_names (decls_to_end ts) in
    ap (λ names. bad_reference_from bounded names ts) (sym (same-standing bounded ss ts h))
    ∙ same-references bounded (standing bounded ss) ss ts h (ap (λ ds. bad_reference_from (bounded_names ds) (standing (bounded_names ds) ss) ss) (sym (same-decls ss ts h)) ∙ e)

-- ---- a module goes up to its END

abbrev pub NoEnd : List StatementTree → Type 0
NoEnd ss = Each (λ (s : StatementTree). ends_module s.phrase ≡ false) ss

pub up-to-end : (fore : List StatementTree) (end : StatementTree) (more : List StatementTree) → NoEnd fore → ends_module end.phrase ≡ true → decls_to_end (fore ++ end ∷ more) ≡ decls_to_end (fore ++ end ∷ [])
up-to-end [] end more i e = ap (λ c. if c then [] else decls_by end.phrase ++ decls_to_end more) e ∙ sym (ap (λ c. if c then [] else decls_by end.phrase ++ []) e)
up-to-end (s ∷ fore) end more i e = ap (λ ds. if ends_module s.phrase then [] else decls_by s.phrase ++ ds) (up-to-end fore end more i.others e)

-- of a module no statement assigns such an F()
abbrev pub NoCalls : List (List ℕ) → List StatementTree → Type 0
NoCalls bounded ss = Each (λ (s : StatementTree). is_bad_call bounded (assigned_by s.phrase) ≡ false) ss

calls-split : (bounded : List (List ℕ)) (fore : List StatementTree) (end : StatementTree) (more : List StatementTree) → NoEnd fore → ends_module end.phrase ≡ true → empty_call_from bounded (fore ++ end ∷ more) ≡ None
    → NoCalls bounded (fore ++ end ∷ []) × (empty_call_from (bounded_names (decls_to_end more)) more ≡ None)
calls-split bounded [] end more i e h =
    let own = chosen-none (is_bad_call bounded (assigned_by end.phrase)) end.first (if ends_module end.phrase then empty_call_from (bounded_names (decls_to_end more)) more else empty_call_from bounded more) h in
    (record { first = own.0; others = tt }, sym (ap (λ c. if c then empty_call_from (bounded_names (decls_to_end more)) more else empty_call_from bounded more) e) ∙ own.1)
calls-split bounded (s ∷ fore) end more i e h =
    let all = fore ++ end ∷ more in
    let own = chosen-none (is_bad_call bounded (assigned_by s.phrase)) s.first (if ends_module s.phrase then empty_call_from (bounded_names (decls_to_end all)) all else empty_call_from bounded all) h in
    let r = calls-split bounded fore end more i.others e (sym (ap (λ c. if c then empty_call_from (bounded_names (decls_to_end all)) all else empty_call_from bounded all) i.first) ∙ own.1) in
    (record { first = own.0; others = r.0 }, r.1)

calls-join : (bounded : List (List ℕ)) (fore : List StatementTree) (end : StatementTree) (more : List StatementTree) → NoEnd fore → ends_module end.phrase ≡ true → NoCalls bounded (fore ++ end ∷ [])
    → empty_call_from (bounded_names (decls_to_end more)) more ≡ None → empty_call_from bounded (fore ++ end ∷ more) ≡ None
calls-join bounded [] end more i e h g =
    ap (λ c. if c then Some end.first else if ends_module end.phrase then empty_call_from (bounded_names (decls_to_end more)) more else empty_call_from bounded more) h.first
    ∙ ap (λ c. if c then empty_call_from (bounded_names (decls_to_end more)) more else empty_call_from bounded more) e ∙ g
calls-join bounded (s ∷ fore) end more i e h g =
    let all = fore ++ end ∷ more in
    ap (λ c. if c then Some s.first else if ends_module s.phrase then empty_call_from (bounded_names (decls_to_end all)) all else empty_call_from bounded all) h.first
    ∙ ap (λ c. if c then empty_call_from (bounded_names (decls_to_end all)) all else empty_call_from bounded all) i.first
    ∙ calls-join bounded fore end more i.others e h.others g

-- the first module of a text, and what stands behind it
pub record Uncalled (fore : List StatementTree) (end : StatementTree) (more : List StatementTree) : Type 0 where
  pub own : NoCalls (bounded_names (decls_to_end (fore ++ end ∷ []))) (fore ++ end ∷ [])
  pub behind : empty_call_fault more ≡ None

pub first-uncalled : (fore : List StatementTree) (end : StatementTree) (more : List StatementTree) → NoEnd fore → ends_module end.phrase ≡ true → empty_call_fault (fore ++ end ∷ more) ≡ None → Uncalled fore end more
unfolding empty_call_fault
first-uncalled fore end more i e h =
    let bounded = bounded_names (decls_to_end (fore ++ end ∷ [])) in
    let r = calls-split bounded fore end more i e (ap (λ ds. empty_call_from (bounded_names ds) (fore ++ end ∷ more)) (sym (up-to-end fore end more i e)) ∙ h) in
    record { own = r.0; behind = r.1 }

pub both-uncalled : (fore : List StatementTree) (end : StatementTree) (more : List StatementTree) → NoEnd fore → ends_module end.phrase ≡ true → NoCalls (bounded_names (decls_to_end (fore ++ end ∷ []))) (fore ++ end ∷ [])
    → empty_call_fault more ≡ None → empty_call_fault (fore ++ end ∷ more) ≡ None
unfolding empty_call_fault
both-uncalled fore end more i e h g =
    ap (λ ds. empty_call_from (bounded_names ds) (fore ++ end ∷ more)) (up-to-end fore end more i e) ∙ calls-join (bounded_names (decls_to_end (fore ++ end ∷ []))) fore end more i e h g

pub none-uncalled : empty_call_fault [] ≡ None
unfolding empty_call_fault
none-uncalled = refl

pub alone-uncalled : (fore : List StatementTree) (end : StatementTree) → NoEnd fore → ends_module end.phrase ≡ true → NoCalls (bounded_names (decls_to_end (fore ++ end ∷ []))) (fore ++ end ∷ []) → empty_call_fault (fore ++ end ∷ []) ≡ None
alone-uncalled fore end i e h = both-uncalled fore end [] i e h none-uncalled
