-- Blanks outside character constants change nothing about how deep the parentheses stand.
use Rattle.std.proofs.Common.{◌≡◌, ℕ, ◌+◌, ◌-◌, List, [], ◌∷◌, refl, ap, sym, ◌∙◌, Bool, true, false, not, if◌then◌else◌}
use Rattle.std.specs.Prelude.{nat_eq, nat_lt, ◌&&◌}
use Rattle.std.proofs.lemmas.Bool.{eqb-true}
use Rattle.f77_structure.specs.declared.depth.Depth.{Depth}
use Rattle.f77_structure.specs.Depth.{passes, after, is_deep_from}
use Rattle.f77_printer.specs.Layout.{stripped}

-- behind an apostrophe, and behind another character
turned : (c : ℕ) (d : Depth) → nat_eq c 39 ≡ true → (after c d).quoted ≡ not d.quoted
turned c d e = rw e refl

quoted_by : (a b e : Bool) (d : Depth) → (if a then d else if b then record d { opened = d.opened + 1 } else if e then record d { opened = d.opened - 1 } else d).quoted ≡ d.quoted
quoted_by true b e d = refl
quoted_by false true e d = refl
quoted_by false false true d = refl
quoted_by false false false d = refl

stays : (c : ℕ) (d : Depth) → nat_eq c 39 ≡ false → (after c d).quoted ≡ d.quoted
stays c d e = rw e (quoted_by d.quoted (nat_eq c 40) (nat_eq c 41 && nat_lt 0 d.opened) d)

abbrev Same : Depth → List ℕ → Type 0
Same d t = is_deep_from d (stripped d.quoted t) ≡ is_deep_from d t

kept : (c : ℕ) (cs : List ℕ) (d : Depth) (q : Bool) → (after c d).quoted ≡ q → Same (after c d) cs → is_deep_from d (c ∷ stripped q cs) ≡ is_deep_from d (c ∷ cs)
kept c cs d q e h = ap (λ (x : Bool). if passes c d then true else x) (ap (λ (b : Bool). is_deep_from (after c d) (stripped b cs)) (sym e) ∙ h)

blank : (c : ℕ) (cs : List ℕ) (d : Depth) → c ≡ 32 → d.quoted ≡ false → is_deep_from d cs ≡ is_deep_from d (c ∷ cs)
blank c cs d e f = rw (e, f) refl

step : (a b i : Bool) (c : ℕ) (cs : List ℕ) (d : Depth) → nat_eq c 39 ≡ a → nat_eq c 32 ≡ b → d.quoted ≡ i → Same (after c d) cs → is_deep_from d (stripped i cs) ≡ is_deep_from d cs
    → is_deep_from d (if a then c ∷ stripped (not i) cs else if b then (if i then c ∷ stripped i cs else stripped i cs) else c ∷ stripped i cs) ≡ is_deep_from d (c ∷ cs)
step true b i c cs d e f g h k = kept c cs d (not i) (turned c d e ∙ ap not g) h
step false true true c cs d e f g h k = kept c cs d true (stays c d e ∙ g) h
step false true false c cs d e f g h k = k ∙ blank c cs d (eqb-true c 32 f) g
step false false i c cs d e f g h k = kept c cs d i (stays c d e ∙ g) h

pub stripped_same : (t : List ℕ) (d : Depth) → Same d t
stripped_same [] d = refl
stripped_same (c ∷ cs) d = step (nat_eq c 39) (nat_eq c 32) d.quoted c cs d refl refl refl (stripped_same cs (after c d)) (stripped_same cs d)
