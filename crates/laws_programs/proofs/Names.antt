-- Names have no `:` and no `/`.
use Rattle.std.proofs.Common.{◌≡◌, ℕ, Bool, true, false, not, List, [], ◌∷◌, refl, sym, ap, ◌∙◌, subst}
use Rattle.std.specs.Prelude.{nat_eq, if◌then◌else◌, ◌||◌}
use Rattle.std.specs.List.{list_any}
use Rattle.std.proofs.lemmas.Bool.{and_from, or_from, not_from_false, eqb-true}
use Rattle.f77_ast.specs.declared.module.FunctionForm.{FunctionForm}
use Rattle.f77_ast.specs.DeclTrees.{ModuleTree}
use Rattle.f77_exprs.specs.Lexical.{in_name, skip_name}
use Rattle.roundtrip_programs.specs.Statements.Formed.{Each}
use Rattle.roundtrip_programs.specs.Statements.Phrased.{IsPhrase}
use Rattle.f77_statements.specs.Phrases.{program}
use Rattle.f77_ast.specs.declared.places.Part.TheVariants as parts
use Rattle.std.specs.Prelude.{Option, None, Some}
use Rattle.roundtrip_programs.specs.ModuleTexts.Cards.{card, head_phrase, title_cards}
use Rattle.roundtrip_programs.specs.ModuleTexts.Numbered.{TitleFits, IsWell}
use Rattle.roundtrip_programs.proofs.ModuleTexts.Kept.{Held}
use Rattle.laws_programs.specs.Effects.Tables.{is_plain}
use Rattle.roundtrip_programs.proofs.ModuleTexts.Cards.{Any as AnyLabel}

-- what is no character of a name is none of a character of a name
pub is_other : (k c : ℕ) → in_name k ≡ false → in_name c ≡ true → nat_eq c k ≡ false
is_other k c h i = go (nat_eq c k) refl
  where
    go : (b : Bool) → nat_eq c k ≡ b → nat_eq c k ≡ false
    go true e = let z : true ≡ false = sym i ∙ ap in_name (eqb-true c k e) ∙ h in cc
    go false e = e

pub has_none : (k : ℕ) → in_name k ≡ false → (x : List ℕ) → skip_name x ≡ [] → list_any (λ c. nat_eq c k) x ≡ false
has_none k h [] e = refl
has_none k h (c ∷ cs) e = go (in_name c) refl e (has_none k h cs)
  where
    go : (b : Bool) → in_name c ≡ b → (if b then skip_name cs else c ∷ cs) ≡ [] → (skip_name cs ≡ [] → list_any (λ d. nat_eq d k) cs ≡ false) → list_any (λ d. nat_eq d k) (c ∷ cs) ≡ false
    go true i g ih = or_from (nat_eq c k) (list_any (λ d. nat_eq d k) cs) (is_other k c h i) (ih g)
    go false i g ih = cc

pub name_plain : (x : List ℕ) → skip_name x ≡ [] → is_plain x ≡ true
name_plain x e =
    and_from (not (list_any (λ c. nat_eq c 58) x)) (not (list_any (λ c. nat_eq c 47) x)) (not_from_false (list_any (λ c. nat_eq c 58) x) (has_none 58 refl x e))
    (not_from_false (list_any (λ c. nat_eq c 47) x) (has_none 47 refl x e))

-- ---- titles

head_plain : (function : Option FunctionForm) (name : List ℕ) (dummies : List (List ℕ)) → IsPhrase (head_phrase function name dummies) → skip_name name ≡ []
head_plain None name dummies h = h.name.whole
head_plain (Some form) name dummies h = h.name.whole

by_title : (main titled : Bool) (function : Option FunctionForm) (name : List ℕ) (dummies : List (List ℕ)) → TitleFits main titled name dummies
    → Each (Held AnyLabel IsPhrase) (if titled || not main then card parts.Title None (if main then program name else head_phrase function name dummies) ∷ [] else []) → skip_name name ≡ []
by_title true true function name dummies t h = h.first.1.whole
by_title true false function name dummies t h = subst (λ x. skip_name x ≡ []) (sym t.unnamed) refl
by_title false true function name dummies t h = head_plain function name dummies h.first.1
by_title false false function name dummies t h = head_plain function name dummies h.first.1

pub title_plain : (m : ModuleTree) → IsWell m → Each (Held AnyLabel IsPhrase) (title_cards m) → is_plain m.name ≡ true
title_plain m w h = name_plain m.name (by_title m.main m.titled m.function m.name m.dummies w.title h)

pub no_dummies : (main titled : Bool) (name : List ℕ) (dummies : List (List ℕ)) → TitleFits main titled name dummies → main ≡ true → dummies ≡ []
no_dummies true true name dummies t e = t
no_dummies true false name dummies t e = t.alone
no_dummies false titled name dummies t e = cc
