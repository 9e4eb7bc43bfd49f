-- What the order of a module asks of the statements that are written of it.
use Rattle.std.proofs.Common.{◌≡◌, ℕ, ◌+◌, false, List, [], ◌∷◌, ◌++◌, refl, sym, ap, ◌∙◌, append_assoc, append-nil, arith}
use Rattle.std.specs.Prelude.{Option, Some, None}
use Rattle.f77_structure.specs.declared.mark.Role.{Role}
use Rattle.f77_structure.specs.declared.mark.Role.TheVariants.{Program, Subroutine, Specification, Plain, LogicalIf, BlockIf, ElseIf, Else, EndIf, Do, EndDo, End}
use Rattle.f77_structure.specs.Marks.{statements_by, label_by, returns_in}
use Rattle.f77_structure.specs.Order.{has_label}
use Rattle.f77_parser.specs.Roles.{role_of}
use Rattle.roundtrip_programs.specs.ModuleTexts.Cards.{Card}

-- a label, where there is one
abbrev pub listed : Option ℕ → List ℕ
listed None = []
listed (Some l) = l ∷ []

abbrev pub label_at : Card → Option ℕ
label_at c = label_by (role_of c.phrase) c.label

abbrev pub number_at : Card → ℕ
number_at c = statements_by (role_of c.phrase) c.label

abbrev pub labels_of : List Card → List ℕ
labels_of [] = []
labels_of (c ∷ cs) = listed (label_at c) ++ labels_of cs

abbrev pub count_of : List Card → ℕ
count_of [] = 0
count_of (c ∷ cs) = number_at c + count_of cs

-- it is no RETURN
abbrev pub IsQuiet : Card → Type 0
IsQuiet c = returns_in (role_of c.phrase) ≡ false

-- it stands behind the heading and the specifications
abbrev pub StandsBehind : Role → Type 0
StandsBehind Program = ⊥
StandsBehind Subroutine = ⊥
StandsBehind Specification = ⊥
StandsBehind (Plain a) = Unit {0}
StandsBehind (LogicalIf a) = Unit {0}
StandsBehind BlockIf = Unit {0}
StandsBehind ElseIf = Unit {0}
StandsBehind Else = Unit {0}
StandsBehind EndIf = Unit {0}
StandsBehind (Do t) = Unit {0}
StandsBehind EndDo = Unit {0}
StandsBehind End = Unit {0}

abbrev pub IsBehind : Card → Type 0
IsBehind c = StandsBehind (role_of c.phrase)

pub labels-append : (xs ys : List Card) → labels_of (xs ++ ys) ≡ labels_of xs ++ labels_of ys
labels-append [] ys = refl
labels-append (c ∷ xs) ys = ap (λ l. listed (label_at c) ++ l) (labels-append xs ys) ∙ sym (append_assoc (listed (label_at c)) (labels_of xs) (labels_of ys))

sum-more : (n a b c : ℕ) → a ≡ b + c → n + a ≡ n + b + c
sum-more n a b c e = omega arith

pub count-append : (xs ys : List Card) → count_of (xs ++ ys) ≡ count_of xs + count_of ys
count-append [] ys = let e : count_of ys ≡ 0 + count_of ys = omega arith in e
count-append (c ∷ xs) ys = sum-more (number_at c) (count_of (xs ++ ys)) (count_of xs) (count_of ys) (count-append xs ys)

-- ---- labels that are not twice

-- behind these labels, none of those is one that stood before
abbrev pub AreNew : List ℕ → List ℕ → Type 0
AreNew done [] = Unit {0}
AreNew done (l ∷ ls) = record { new : has_label l done ≡ false; others : AreNew (done ++ l ∷ []) ls }

pub one-new : (done ls : List ℕ) (l : ℕ) → AreNew done ls → has_label l (done ++ ls) ≡ false → AreNew done (ls ++ l ∷ [])
one-new done [] l a h = record { new = ap (has_label l) (sym (append-nil done)) ∙ h; others = tt }
one-new done (x ∷ ls) l a h =
    record { new = a.new; others = one-new (done ++ x ∷ []) ls l a.others (ap (has_label l) (append_assoc done (x ∷ []) ls) ∙ h) }
