-- INTEGER and LOGICAL that are read as such do not go on to FUNCTION.
use Rattle.std.proofs.Common.{◌≡◌, ℕ, List, [], ◌∷◌, ◌++◌, length, refl, ap, ◌∙◌, sym, subst, Option, Some, None, Bool, true, false, if◌then◌else◌}
use Rattle.std.specs.Prelude.{codes, option_map, nat_eq, Ok}
use Rattle.std.proofs.lemmas.Bool.{eqb-true}
use Rattle.f77_ast.specs.DeclTrees.{EntityTree, integer, logical}
use Rattle.f77_exprs.specs.Words.{after}
use Rattle.f77_exprs.specs.State.{State, start, ◌>>=◌}
use Rattle.f77_exprs.specs.Lexical.{name_at, skip_name}
use Rattle.f77_exprs.specs.Grammar.{comma, items, items_by, more_by}
use Rattle.f77_forms.specs.Words.{rest_after}
use Rattle.f77_forms.specs.declared.form.FormId.TheVariants as forms
use Rattle.f77_forms.specs.declared.choice.Choice.TheVariants.{Chosen}
use Rattle.f77_forms.specs.declared.outline.Marks.{Marks}
use Rattle.f77_forms.specs.declared.outline.Marks.TheVariants.{NoEqual, Equal, EqualAndComma}
use Rattle.f77_forms.specs.Outline.{front, marks_of}
use Rattle.f77_forms.specs.Choice.{keyword_choice, marked_choice}
use Rattle.f77_forms.specs.Profile.{profile}
use Rattle.f77_statements.specs.Parts.{entity}
use Rattle.f77_statements.specs.Specifications.{integer_statement, logical_statement}
use Rattle.f77_statements.specs.Statements.{form_in, form_at}
use Rattle.roundtrip_programs.specs.Statements.Declared.{IsEntity, AreTyped, IsDecl}
use Rattle.roundtrip_programs.proofs.Statements.Readings.{After, seq, weaken}
use Rattle.roundtrip_programs.proofs.Statements.Names.{name-stands}
use Rattle.roundtrip_programs.proofs.Statements.Lists.{more_by-sound, comma_keeps, each-push}
use Rattle.roundtrip_programs.proofs.Statements.PartsFormed.{Besides, entity-besides, entity-sound}
use Rattle.roundtrip_programs.proofs.Statements.Verdicts.{clean}
use Rattle.fx_lists.proofs.Lists.{lacks_at as front_at}

-- ---- words at the front

same_word : (w t : List ℕ) → rest_after w t ≡ after w t
same_word [] t = refl
same_word (x ∷ xs) [] = refl
same_word (x ∷ xs) (c ∷ cs) = ap (λ (o : Option (List ℕ)). if nat_eq c x then o else None) (same_word xs cs)

splits_at : (b : Bool) (c x : ℕ) (xs cs r : List ℕ) → nat_eq c x ≡ b → (after xs cs ≡ Some r → cs ≡ xs ++ r) → (if b then after xs cs else None) ≡ Some r → c ∷ cs ≡ x ∷ (xs ++ r)
splits_at true c x xs cs r e f h = let g : c ≡ x = eqb-true c x e in rw (g, f h)
splits_at false c x xs cs r e f h = cc

pub splits : (w t r : List ℕ) → after w t ≡ Some r → t ≡ w ++ r
splits [] t r h = cc
splits (x ∷ xs) [] r h = cc
splits (x ∷ xs) (c ∷ cs) r h = splits_at (nat_eq c x) c x xs cs r refl (splits xs cs r) h

front_lacks : (w n u : List ℕ) → after w (n ++ u) ≡ None → after w n ≡ None
front_lacks [] n u h = cc
front_lacks (x ∷ xs) [] u h = refl
front_lacks (x ∷ xs) (c ∷ cs) u h = front_at (nat_eq c x) (after xs (cs ++ u)) (after xs cs) h (front_lacks xs cs u)

-- ---- no FUNCTION stands behind the keyword

integer_by : (m : Marks) (o : Option (List ℕ)) (x : List ℕ) → rest_after (codes "FUNCTION") x ≡ o → form_in (marked_choice m profile (codes "INTEGER" ++ x)) ≡ Ok forms.Integer → o ≡ None
integer_by NoEqual None x e h = refl
integer_by NoEqual (Some y) x e h =
    let c : keyword_choice profile (codes "INTEGER" ++ x) ≡ Chosen forms.IntegerFunction = rw e refl in
    let d = sym (ap form_in c) ∙ h in cc
integer_by Equal o x e h = cc
integer_by EqualAndComma o x e h = cc

integer_alone : (x : List ℕ) → form_at (codes "INTEGER" ++ x) ≡ Ok forms.Integer → after (codes "FUNCTION") x ≡ None
unfolding form_at
integer_alone x h = sym (same_word (codes "FUNCTION") x) ∙ integer_by (marks_of front (codes "INTEGER" ++ x)) (rest_after (codes "FUNCTION") x) x refl h

logical_by : (m : Marks) (o : Option (List ℕ)) (x : List ℕ) → rest_after (codes "FUNCTION") x ≡ o → form_in (marked_choice m profile (codes "LOGICAL" ++ x)) ≡ Ok forms.Logical → o ≡ None
logical_by NoEqual None x e h = refl
logical_by NoEqual (Some y) x e h =
    let c : keyword_choice profile (codes "LOGICAL" ++ x) ≡ Chosen forms.LogicalFunction = rw e refl in
    let d = sym (ap form_in c) ∙ h in cc
logical_by Equal o x e h = cc
logical_by EqualAndComma o x e h = cc

logical_alone : (x : List ℕ) → form_at (codes "LOGICAL" ++ x) ≡ Ok forms.Logical → after (codes "FUNCTION") x ≡ None
unfolding form_at
logical_alone x h = sym (same_word (codes "FUNCTION") x) ∙ logical_by (marks_of front (codes "LOGICAL" ++ x)) (rest_after (codes "FUNCTION") x) x refl h

-- ---- the names

abbrev NoFunction : List ℕ → Type 0
NoFunction n = after (codes "FUNCTION") n ≡ None

name_alone : (s : State) → NoFunction s.rest → After (name_at s) s.notes NoFunction
name_alone s h =
    weaken (name_at s) s.notes (λ n. n ++ skip_name s.rest ≡ s.rest) NoFunction (name-stands s)
    (λ n e. front_lacks (codes "FUNCTION") n (skip_name s.rest) (ap (after (codes "FUNCTION")) e ∙ h))

typed-push : (xs : List EntityTree) (x : EntityTree) → AreTyped xs → IsEntity x → AreTyped (xs ++ x ∷ [])
typed-push [] x h p = absurd h
typed-push (y ∷ ys) x h p = record { first = h.first; others = each-push IsEntity ys x h.others p; function = h.function }

typed-formed : (s : State) → NoFunction s.rest → After (items entity s) s.notes AreTyped
unfolding items_by
typed-formed s h =
    seq (entity s) (λ e. more_by comma entity (length e.1.rest) (e.0 ∷ []) e.1) s.notes (Besides NoFunction) AreTyped (entity-besides NoFunction s (name_alone s h))
    (λ e. weaken (more_by comma entity (length e.1.rest) (e.0 ∷ []) e.1) e.1.notes (λ xs. AreTyped (e.0 ∷ []) → AreTyped xs) (λ xs. Besides NoFunction e.0 → AreTyped xs)
    (more_by-sound comma entity IsEntity AreTyped comma_keeps entity-sound typed-push (length e.1.rest) (e.0 ∷ []) e.1)
    (λ xs f w. f (record { first = w.entity; others = tt; function = w.more })))

-- ---- the statements

integer_at : (o : Option (List ℕ)) (body : List ℕ) → after (codes "INTEGER") body ≡ o → form_at body ≡ Ok forms.Integer
    → After (option_map (λ r. record (start body) { rest = r }) o >>= λ t. items entity t >>= λ es. Some (integer es.0, es.1)) clean IsDecl
integer_at None body e h = tt
integer_at (Some x) body e h =
    let b : body ≡ codes "INTEGER" ++ x = splits (codes "INTEGER") body x e in
    let s : State = record (start body) { rest = x } in
    seq (items entity s) (λ es. Some (integer es.0, es.1)) clean AreTyped IsDecl (typed-formed s (integer_alone x (subst (λ (y : List ℕ). form_at y ≡ Ok forms.Integer) b h))) (λ es c. (c, λ g. g))

pub integer-formed : (body : List ℕ) → form_at body ≡ Ok forms.Integer → After (integer_statement (start body)) clean IsDecl
unfolding integer_statement
integer-formed body h = integer_at (after (codes "INTEGER") body) body refl h

logical_at : (o : Option (List ℕ)) (body : List ℕ) → after (codes "LOGICAL") body ≡ o → form_at body ≡ Ok forms.Logical
    → After (option_map (λ r. record (start body) { rest = r }) o >>= λ t. items entity t >>= λ es. Some (logical es.0, es.1)) clean IsDecl
logical_at None body e h = tt
logical_at (Some x) body e h =
    let b : body ≡ codes "LOGICAL" ++ x = splits (codes "LOGICAL") body x e in
    let s : State = record (start body) { rest = x } in
    seq (items entity s) (λ es. Some (logical es.0, es.1)) clean AreTyped IsDecl (typed-formed s (logical_alone x (subst (λ (y : List ℕ). form_at y ≡ Ok forms.Logical) b h))) (λ es c. (c, λ g. g))

pub logical-formed : (body : List ℕ) → form_at body ≡ Ok forms.Logical → After (logical_statement (start body)) clean IsDecl
unfolding logical_statement
logical-formed body h = logical_at (after (codes "LOGICAL") body) body refl h
