-- Character constants: the doubled text before an apostrophe is read as the text.
use Rattle.std.proofs.Common.{◌≡◌, ℕ, List, [], ◌∷◌, ◌++◌, refl, ap, ◌∙◌, Some, Bool, true, false, if◌then◌else◌}
use Rattle.std.specs.Prelude.{nat_eq}
use Rattle.f77_exprs.specs.Lexical.{constant, with_front}
use Rattle.f77_printer.specs.ExprText.{doubled}
use Rattle.std.proofs.lemmas.Bool.{eqb-true}

-- no apostrophe stands at the front
abbrev pub NoApostrophe : List ℕ → Type 0
NoApostrophe [] = Unit {0}
NoApostrophe (c ∷ cs) = nat_eq c 39 ≡ false

ended : (t : List ℕ) → NoApostrophe t → constant (39 ∷ t) ≡ Some ([], t)
ended [] h = refl
ended (c ∷ cs) h = rw h

-- the first character of what follows is no matter where it is no apostrophe itself
plain : (c : ℕ) (t r : List ℕ) → nat_eq c 39 ≡ false → constant (c ∷ t ++ (39 ∷ r)) ≡ with_front (c ∷ []) (constant (t ++ (39 ∷ r)))
plain c [] r h = rw h
plain c (d ∷ ds) r h = rw h

doubled_at : (b : Bool) (c : ℕ) (cs t : List ℕ) → nat_eq c 39 ≡ b → constant (doubled cs ++ (39 ∷ t)) ≡ Some (cs, t)
    → constant ((if b then 39 ∷ 39 ∷ doubled cs else c ∷ doubled cs) ++ (39 ∷ t)) ≡ Some (c ∷ cs, t)
doubled_at true c cs t e h = let f : c ≡ 39 = eqb-true c 39 e in rw (h, f)
doubled_at false c cs t e h = plain c (doubled cs) t e ∙ ap (with_front (c ∷ [])) h

pub constant-back : (c t : List ℕ) → NoApostrophe t → constant (doubled c ++ (39 ∷ t)) ≡ Some (c, t)
constant-back [] t h = ended t h
constant-back (c ∷ cs) t h = doubled_at (nat_eq c 39) c cs t refl (constant-back cs t h)
