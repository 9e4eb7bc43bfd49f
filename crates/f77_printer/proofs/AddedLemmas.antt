-- Lines kept by the parts that they come before.
use Rattle.std.proofs.Common.{◌≡◌, ℕ, ◌+◌, ◌<◌, List, [], ◌++◌, length, get_or, drop, ap, sym, ◌∙◌, refl, Bool, true, false, nat_eq, if◌then◌else◌, append_assoc, ◌||◌}
use Rattle.std.specs.Prelude.{codes, unwrap_or}
use Rattle.std.specs.Map.{lookup}
use Rattle.std.proofs.lemmas.Bool.{eqb-true, eq-eqb}
use Rattle.std.specs.declared.hash.FoldHasher.{FoldHasher}
use Rattle.std.specs.declared.hash.BuildHasherDefault.{BuildHasherDefault}
use Rattle.std.specs.HashMap.{HashMap}
use Rattle.f77_ast.specs.declared.places.Part.{Part}
use Rattle.f77_ast.specs.declared.places.Part.TheVariants.{Title, Decl, Stmt, ElseIf, Else, Close, End}
use Rattle.f77_printer.specs.declared.added.Added.{Added}
use Rattle.f77_printer.specs.declared.added.Lines.{Lines}
use Rattle.f77_printer.specs.PageText.{is_part}
use Rattle.f77_printer.specs.AddedText.{part_of, added_text}
use Rattle.f77_printer.specs.Lines.{lines_of, other_text, HasMore}
use Rattle.fx_lists.proofs.Booleans.{same_left, same_right}
use Rattle.fx_lists.proofs.Lists.{at_place as next_part}

-- parts that the test takes for one are one
pub is_part_same : (p q : Part) → is_part p q ≡ true → p ≡ q
is_part_same Title Title h = refl
is_part_same (Decl n) (Decl m) h = ap Decl (eqb-true n m h)
is_part_same (Stmt i) (Stmt j) h = ap Stmt (eqb-true i j h)
is_part_same (ElseIf i n) (ElseIf j m) h =
    let e = eqb-true i j (same_left (nat_eq i j) (nat_eq n m) h) in
    let f = eqb-true n m (same_right (nat_eq i j) (nat_eq n m) h) in cc
is_part_same (Else i) (Else j) h = ap Else (eqb-true i j h)
is_part_same (Close i) (Close j) h = ap Close (eqb-true i j h)
is_part_same End End h = refl
is_part_same p q h = cc

pub is_part_self : (p : Part) → is_part p p ≡ true
is_part_self Title = refl
is_part_self (Decl n) = eq-eqb n n refl
is_part_self (Stmt i) = eq-eqb i i refl
is_part_self (ElseIf i n) = let e = eq-eqb i i refl in let f = eq-eqb n n refl in rw (e, f)
is_part_self (Else i) = eq-eqb i i refl
is_part_self (Close i) = eq-eqb i i refl
is_part_self End = refl

-- a part that is the first one, and another
first_is : (first : Part) (a : Added) → (nat_eq a.before 0 || is_part (Stmt a.before) first) ≡ true → part_of first a ≡ first
first_is first a h = first_by (nat_eq a.before 0) (is_part (Stmt a.before) first) first a.before h (is_part_same (Stmt a.before) first)
  where
    first_by : (z s : Bool) (first : Part) (n : ℕ) → (z || s) ≡ true → (s ≡ true → Stmt n ≡ first) → (if z then first else Stmt n) ≡ first
    first_by true s first n h e = refl
    first_by false s first n h e = e h

-- a line that goes to the first part
more_first : (b : Bool) (x y z w : List ℕ) → w ≡ x ++ z ++ codes "\n" → (if b then w else y) ≡ (if b then (if b then x else y) ++ z ++ codes "\n" else (if b then x else y))
more_first true x y z w h = h
more_first false x y z w h = refl

pub HasMore-first : (l : Lines) (a : Added) (text : List ℕ) → (nat_eq a.before 0 || is_part (Stmt a.before) l.first) ≡ true → text ≡ l.at_first ++ a.line ++ codes "\n"
    → HasMore (part_of l.first a) a.line (lines_of l) (lines_of (record { first = l.first; at_first = text; others = l.others }))
unfolding lines_of
HasMore-first l a text h e = λ part.
    rw (first_is l.first a h) (more_first (is_part part l.first) l.at_first (other_text l.others part) a.line text e)

-- and one that goes to another statement
apart : (n : ℕ) (p q : Part) → is_part (Stmt n) q ≡ false → is_part p q ≡ true → is_part p (Stmt n) ≡ false
apart n p q h e = apart_by n p q h (is_part_same p q e) (is_part p (Stmt n)) refl (is_part_same p (Stmt n))
  where
    apart_by : (n : ℕ) (p q : Part) → is_part (Stmt n) q ≡ false → p ≡ q → (b : Bool) → is_part p (Stmt n) ≡ b → (is_part p (Stmt n) ≡ true → p ≡ Stmt n) → b ≡ false
    apart_by n p q h e true f g =
        let same : Stmt n ≡ q = sym (g f) ∙ e in
        let self = is_part_self (Stmt n) in
        let other : is_part (Stmt n) (Stmt n) ≡ false = ap (is_part (Stmt n)) same ∙ h in cc
    apart_by n p q h e false f g = refl

more_other : (b s : Bool) (x y z w : List ℕ) → (b ≡ true → s ≡ false) → w ≡ (if s then y ++ z ++ codes "\n" else y)
    → (if b then x else w) ≡ (if s then (if b then x else y) ++ z ++ codes "\n" else (if b then x else y))
more_other true true x y z w h e = cc (h refl)
more_other true false x y z w h e = refl
more_other false s x y z w h e = e

part_of-other : (first : Part) (a : Added) → (nat_eq a.before 0 || is_part (Stmt a.before) first) ≡ false → (part_of first a ≡ Stmt a.before) × (is_part (Stmt a.before) first ≡ false)
part_of-other first a h = part_by (nat_eq a.before 0) (is_part (Stmt a.before) first) first a.before h
  where
    part_by : (z s : Bool) (first : Part) (n : ℕ) → (z || s) ≡ false → ((if z then first else Stmt n) ≡ Stmt n) × (s ≡ false)
    part_by true s first n h = cc
    part_by false s first n h = (refl, h)

pub HasMore-other : (l : Lines) (a : Added) (m : HashMap ℕ (List ℕ) (BuildHasherDefault FoldHasher)) → (nat_eq a.before 0 || is_part (Stmt a.before) l.first) ≡ false
    → HasMore (Stmt a.before) a.line (other_text l.others) (other_text m)
    → HasMore (part_of l.first a) a.line (lines_of l) (lines_of (record { first = l.first; at_first = l.at_first; others = m }))
unfolding lines_of
HasMore-other l a m h e = λ part.
    let f = part_of-other l.first a h in
    rw f.0 (more_other (is_part part l.first) (is_part part (Stmt a.before)) l.at_first (other_text l.others part) a.line (other_text m part)
    (apart a.before part l.first f.1) (e part))

-- one line more of a list of added ones
pub added_text-drop : (first part : Part) (xs : List Added) (i : ℕ) (a : Added) → i < length xs → a ≡ get_or xs i a
    → added_text first (drop i xs) part ≡ (if is_part part (part_of first a) then a.line ++ codes "\n" ++ added_text first (drop (i + 1) xs) part else added_text first (drop (i + 1) xs) part)
added_text-drop first part xs i a h e = ap (λ ys. added_text first ys part) (next_part xs i a h e)

taken : (b : Bool) (before line rest : List ℕ) → (if b then before ++ line ++ codes "\n" else before) ++ rest ≡ before ++ (if b then line ++ codes "\n" ++ rest else rest)
taken true before line rest = simp append_assoc
taken false before line rest = refl

-- the lines so far and those that are left make up one text
pub HasMore-left : (first part : Part) (before after : Part → List ℕ) (xs : List Added) (i : ℕ) (a : Added) → i < length xs → a ≡ get_or xs i a
    → HasMore (part_of first a) a.line before after
    → after part ++ added_text first (drop (i + 1) xs) part ≡ before part ++ added_text first (drop i xs) part
HasMore-left first part before after xs i a h e more =
    let rest = added_text first (drop (i + 1) xs) part in
    ap (λ t. t ++ rest) (more part)
    ∙ taken (is_part part (part_of first a)) (before part) a.line rest
    ∙ ap (λ t. before part ++ t) (sym (added_text-drop first part xs i a h e))

other_text-none : (m : HashMap ℕ (List ℕ) (BuildHasherDefault FoldHasher)) (part : Part) → m.entries ≡ [] → other_text m part ≡ []
other_text-none m Title h = refl
other_text-none m (Decl n) h = refl
other_text-none m (Stmt id) h = ap (λ es. unwrap_or (lookup (nat_eq id) es) []) h
other_text-none m (ElseIf id n) h = refl
other_text-none m (Else id) h = refl
other_text-none m (Close id) h = refl
other_text-none m End h = refl

none_of : (b : Bool) (x y : List ℕ) → x ≡ [] → y ≡ [] → (if b then x else y) ≡ []
none_of true x y h e = h
none_of false x y h e = e

-- before any line is kept
pub lines_of-none : (first : Part) (text : List ℕ) (m : HashMap ℕ (List ℕ) (BuildHasherDefault FoldHasher)) (part : Part) → text ≡ [] → m.entries ≡ []
    → lines_of (record { first = first; at_first = text; others = m }) part ≡ []
unfolding lines_of
lines_of-none first text m part h e = none_of (is_part part first) text (other_text m part) h (other_text-none m part e)
