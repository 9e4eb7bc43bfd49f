-- Lines, one spot after another.
use Rattle.std.proofs.Common.{◌≡◌, ℕ, suc, ◌+◌, ◌<◌, ◌≤◌, Bool, true, false, List, ◌∷◌, length, get_or, drop, Option, Some, None, refl, sym, ap, ◌∙◌, add-one}
use Rattle.std.proofs.Math.Seq.{drop-cons}
use Rattle.std.proofs.Math.Path.{fun_ext}
use Rattle.std.specs.Cmp.{IsEquivalence}
use Rattle.std.specs.HashMap.{HashMap, get, get_by}
use Rattle.std.proofs.lemmas.List.{drop_all}
use Rattle.std.specs.Prelude.{if◌then◌else◌, is_some}
use Rattle.f77_ast.specs.declared.places.Spot.{Spot}
use Rattle.f77_names.specs.declared.lines.Sited.{Sited}
use Rattle.f77_names.specs.declared.lines.Sited.TheVariants.{Title, Decl, Statement, ElseIf}
use Rattle.f77_ast.specs.declared.places.Part.TheVariants as part
use Rattle.std.specs.declared.hash.FoldHasher.{FoldHasher}
use Rattle.std.specs.declared.hash.BuildHasherDefault.{BuildHasherDefault}
use Rattle.f77_names.specs.declared.lines.LineTable.{LineTable as Kept}
use Rattle.f77_names.specs.Views.{line_in, same_pair}
use Rattle.std.specs.Prelude.{nat_eq}
use Rattle.f77_names.specs.Lines.{LineTable, lines_of, only_at, or_own, stands_at, with_spot}
use Rattle.f77_names.specs.Entries.{or_this}

pub one_spot : (at : LineTable) (q : Spot) (qs : List Spot) (s : Sited) → or_own (with_spot q.part q.first at s) (lines_of qs s) ≡ or_own (at s) (lines_of (q ∷ qs) s)
one_spot at q qs s = go (at s) (stands_at s q.part)
  where
    go : (o : Option ℕ) (b : Bool) → or_own (or_own o (if b then Some q.first else None)) (lines_of qs s) ≡ or_own o (if b then Some q.first else lines_of qs s)
    go None true = refl
    go None false = refl
    go (Some n) b = refl

pub or_own-none : (o : Option ℕ) → or_own o None ≡ o
or_own-none None = refl
or_own-none (Some n) = refl

pub or_own-this : (o : Option ℕ) (n : ℕ) → or_this o n ≡ or_own o (Some n)
or_own-this None n = refl
or_own-this (Some m) n = refl

pub next_spot : (qs : List Spot) (i : ℕ) (q : Spot) → i < length qs → q ≡ get_or qs i q → drop i qs ≡ q ∷ drop (i + 1) qs
next_spot qs i q h e = rw (add-one, drop-cons qs i q) (ap (λ p. p ∷ drop (suc i) qs) (sym e))

pub last_spot : (o : Option ℕ) (qs : List Spot) (i : ℕ) (s : Sited) → length qs ≤ i → or_own o (lines_of (drop i qs) s) ≡ o
last_spot o qs i s h = ap (λ rs. or_own o (lines_of rs s)) (drop_all i qs h) ∙ or_own-none o

-- ---- one key of a map

-- a line that is known stays
pub line_known : (o : Option ℕ) (b : Bool) (n : ℕ) → (b ≡ true → is_some o ≡ true) → o ≡ or_own o (only_at b n)
line_known None true n h = let z : is_some {T = ℕ} None ≡ true = h refl in cc
line_known None false n h = refl
line_known (Some m) b n h = refl

pub line_new : (o : Option ℕ) (b : Bool) (n : ℕ) → (b ≡ true → is_some o ≡ false) → (if b then Some n else o) ≡ or_own o (only_at b n)
line_new None true n h = refl
line_new None false n h = refl
line_new (Some m) true n h = let z : is_some (Some m) ≡ false = h refl in cc
line_new (Some m) false n h = refl

pub same_got : {K S : Type 0} (eq : K → K → Bool) → IsEquivalence eq → (m : HashMap K ℕ S) (a b : K) → eq a b ≡ true → get eq m a ≡ get eq m b
same_got eq laws m a b e = ap (λ p. get_by p m) (fun_ext (λ z. laws.congr a b z e))

pub kept_known : {K S : Type 0} (eq : K → K → Bool) → IsEquivalence eq → (m : HashMap K ℕ S) (a : K) (n : ℕ) → is_some (get eq m a) ≡ true → (b : K) → get eq m b ≡ or_own (get eq m b) (only_at (eq a b) n)
kept_known eq laws m a n known b = line_known (get eq m b) (eq a b) n (λ e. ap is_some (sym (same_got eq laws m a b e)) ∙ known)

pub kept_new : {K S : Type 0} (eq : K → K → Bool) → IsEquivalence eq → (m o : HashMap K ℕ S) (a : K) (n : ℕ) → is_some (get eq m a) ≡ false → ((b : K) → get eq o b ≡ (if eq a b then Some n else get eq m b)) → (b : K) → get eq o b ≡ or_own (get eq m b) (only_at (eq a b) n)
kept_new eq laws m o a n new now b = now b ∙ line_new (get eq m b) (eq a b) n (λ e. ap is_some (sym (same_got eq laws m a b e)) ∙ new)

-- a table with other lines of ELSE IFs
pub else_if_kept : (t : Kept) (m : HashMap (ℕ × ℕ) ℕ (BuildHasherDefault FoldHasher)) (n k line : ℕ) → ((q : ℕ × ℕ) → get same_pair m q ≡ or_own (get same_pair t.else_ifs q) (only_at (same_pair (n, k) q) line))
    → (s : Sited) → line_in (record t { else_ifs = m }) s ≡ with_spot (part.ElseIf n k) line (line_in t) s
unfolding line_in
else_if_kept t m n k line h Title = sym (or_own-none t.title)
else_if_kept t m n k line h (Decl i) = sym (or_own-none (get nat_eq t.decls i))
else_if_kept t m n k line h (Statement i) = sym (or_own-none (get nat_eq t.statements i))
else_if_kept t m n k line h (ElseIf i j) = h (i, j)
