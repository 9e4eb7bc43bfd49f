-- The form of a written statement is the one that it was written for.
use Rattle.std.proofs.Common.{◌≡◌, ℕ, List, [], ◌∷◌, ◌++◌, refl, ap, ◌∙◌, sym, arith, append-nil, Option, Some, None, Bool, true, false, if◌then◌else◌}
use Rattle.std.specs.Prelude.{nat_eq, Ok, unwrap_or, option_and_then}
use Rattle.f77_exprs.specs.Lexical.{in_name, skip_name}
use Rattle.f77_forms.specs.declared.form.FormId.{FormId}
use Rattle.f77_forms.specs.declared.choice.Choice.{Choice}
use Rattle.f77_forms.specs.declared.choice.Choice.TheVariants.{Chosen}
use Rattle.f77_forms.specs.declared.outline.Outline.{Outline}
use Rattle.f77_forms.specs.declared.outline.Marks.{Marks}
use Rattle.f77_forms.specs.declared.outline.Marks.TheVariants.{NoEqual, Equal}
use Rattle.f77_forms.specs.Words.{rest_after}
use Rattle.f77_forms.specs.Outline.{front, is_outer, is_one_deep, has_comma, marks_of, rest_after_close}
use Rattle.f77_forms.specs.Choice.{if_body, if_choice, marked_choice}
use Rattle.f77_forms.specs.Profile.{profile}
use Rattle.f77_statements.specs.Statements.{form_in, form_at}
use Rattle.roundtrip_programs.specs.Statements.Formed.{IsName}
use Rattle.roundtrip_programs.proofs.Statements.Balanced.{tight, listed, deep, Balanced, name_quiet}
use Rattle.roundtrip_programs.proofs.Statements.Stripping.{quiet_parts}
use Rattle.roundtrip_programs.proofs.Statements.Scanning.{Level, opened, passes, marks_scanner, MarksFine, comma_scanner, CommaFine, close_scanner, CloseFine, outer-yes, deep-yes}

pub at_front : Level 0 front
at_front = record { plain = refl; depth = omega arith }

-- ---- no `=` stands outside

pub no_equal : (body : List ℕ) → Balanced listed body → marks_of front body ≡ NoEqual
no_equal body b =
    let p = passes marks_of MarksFine marks_scanner b front [] 0 at_front tt in
    ap (marks_of front) (sym (append-nil body)) ∙ p.same

pub form_from : (body : List ℕ) (m : Marks) (form : FormId) → if_choice body ≡ None → marks_of front body ≡ m → marked_choice m profile body ≡ Chosen form → form_at body ≡ Ok form
unfolding form_at
form_from body m form i e c =
    let x : marked_choice (marks_of front body) profile body ≡ Chosen form = ap (λ (n : Marks). marked_choice n profile body) e ∙ c in
    ap (λ (o : Option Choice). form_in (unwrap_or o (marked_choice (marks_of front body) profile body))) i ∙ ap form_in x

pub by_keyword : (body : List ℕ) (form : FormId) → if_choice body ≡ None → Balanced listed body → marked_choice NoEqual profile body ≡ Chosen form → form_at body ≡ Ok form
by_keyword body form i b c = form_from body NoEqual form i (no_equal body b) c

-- ---- one `=` stands outside

equal_at : (o : Outline) (e : List ℕ) → Level 0 o → Balanced tight e → marks_of o (61 ∷ e) ≡ Equal
equal_at o e l b =
    let y : is_outer o ≡ true = outer-yes o l in
    let p = passes has_comma CommaFine comma_scanner b o [] 0 l tt in
    let c : has_comma o e ≡ false = ap (has_comma o) (sym (append-nil e)) ∙ p.same in
    rw (y, c)

pub marks_equal : (v e : List ℕ) → Balanced tight v → Balanced tight e → marks_of front (v ++ (61 ∷ e)) ≡ Equal
marks_equal v e b c =
    let p = passes marks_of MarksFine marks_scanner b front (61 ∷ e) 0 at_front tt in
    p.same ∙ equal_at p.reached e p.level c

-- ---- what begins with the name of a variable is no IF

not_open : (c : ℕ) (cs : List ℕ) → in_name c ≡ true → if_body (c ∷ cs) ≡ None
not_open c cs h = let q : nat_eq c 40 ≡ false = (quiet_parts c (name_quiet c h)).opening in rw q

first_in_name : (b : Bool) (c : ℕ) (cs : List ℕ) → in_name c ≡ b → skip_name (c ∷ cs) ≡ [] → record { first : in_name c ≡ true; others : skip_name cs ≡ [] }
first_in_name true c cs e h = record { first = e; others = rw e at h }
first_in_name false c cs e h = let g = rw e at h in cc

one_letter : (a : Bool) (x : Option (List ℕ)) → x ≡ None → option_and_then if_body (if a then x else None) ≡ None
one_letter true x h = ap (option_and_then if_body) h
one_letter false x h = refl

two_letters : (a b : Bool) (x : List ℕ) → if_body x ≡ None → option_and_then if_body (if a then (if b then Some x else None) else None) ≡ None
two_letters true true x h = h
two_letters true false x h = refl
two_letters false b x h = refl

pub no_if : (n u : List ℕ) → IsName n → if_body u ≡ None → rest_after (70 ∷ []) u ≡ None → if_choice (n ++ u) ≡ None
no_if [] u h b f = let g = h.letter in cc
no_if (c ∷ []) u h b f = one_letter (nat_eq c 73) (rest_after (70 ∷ []) u) f
no_if (c ∷ d ∷ []) u h b f = two_letters (nat_eq c 73) (nat_eq d 70) u b
no_if (c ∷ d ∷ e ∷ cs) u h b f =
    let p = first_in_name (in_name c) c (d ∷ e ∷ cs) refl h.whole in
    let q = first_in_name (in_name d) d (e ∷ cs) refl p.others in
    let r = first_in_name (in_name e) e cs refl q.others in
    two_letters (nat_eq c 73) (nat_eq d 70) (e ∷ (cs ++ u)) (not_open e (cs ++ u) r.first)

-- the parenthesis is closed before what follows
pub closes_before : (t u : List ℕ) → Balanced deep t → rest_after_close front (40 ∷ (t ++ (41 ∷ u))) ≡ Some u
closes_before t u b =
    let l : Level 1 (opened front) = record { plain = refl; depth = refl } in
    let p = passes rest_after_close CloseFine close_scanner b (opened front) (41 ∷ u) 1 l (omega arith) in
    let d : is_one_deep p.reached ≡ true = deep-yes p.reached p.level in
    p.same ∙ rw d
