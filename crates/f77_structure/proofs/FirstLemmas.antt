-- The first of several faults does not depend on the order in which they are met.
use Rattle.std.proofs.Common.{◌≡◌, ℕ, ◌+◌, ◌*◌, ◌<◌, ◌≤◌, Bool, true, false, List, [], ◌∷◌, refl, sym, ap, ◌∙◌, arith}
use Rattle.std.specs.Prelude.{Option, Some, None, not, ◌&&◌, ◌||◌, nat_eq, nat_lt, if◌then◌else◌}
use Rattle.std.proofs.lemmas.Bool.Decides.{nat_tests}
use Rattle.fx_lists.specs.declared.code.Code.{Code}
use Rattle.fx_lists.specs.declared.code.Code.TheVariants.{NonAscii, Tab, BadLabelField, ContinuationFirst, TooManyContinuations, NoEnd, Syntax, OutOfProfile, RealConstant, NumberTooBig, NameTooLong, UnclosedDo, UnclosedIf, StrayPart, BadTerminal, LabelTwice, LabelMissing, JumpIntoBlock, TooManyStatements, TooDeep, RealName, DeclaredTwice, BadDimension, BadParameter, CommonTwice, EquivalenceClash, EquivalenceExtendsBack, InitialMismatch, SubscriptCount, TypeMismatch, AssignToConstant, NotAnArray, NoMain, TwoMains, ModuleTwice, NoSuchModule, ArgumentCount, ArgumentType, Recursion, TooManyModules}
use Rattle.fx_lists.specs.declared.refusal.Refusal.{Refusal}
use Rattle.f77_structure.specs.declared.open.Span.{Span}
use Rattle.f77_structure.specs.declared.blocks.Landing.{Landing}
use Rattle.f77_structure.specs.declared.blocks.Jump.{Jump}
use Rattle.fx_lists.specs.Refusals.{number_of, code_numbered, is_before, earliest, refuse_if}
use Rattle.f77_structure.specs.Jumps.{stands, reaches, check_jump, all_judged}
use Rattle.f77_structure.specs.First.{first_fault}

-- ---- faults are in one order

-- line and number as one number
abbrev pub key : Refusal → ℕ
key f = f.line * 64 + number_of f.code

small : (f : Code) → number_of f < 64
small NonAscii = omega arith
small Tab = omega arith
small BadLabelField = omega arith
small ContinuationFirst = omega arith
small TooManyContinuations = omega arith
small NoEnd = omega arith
small Syntax = omega arith
small OutOfProfile = omega arith
small RealConstant = omega arith
small NumberTooBig = omega arith
small NameTooLong = omega arith
small UnclosedDo = omega arith
small UnclosedIf = omega arith
small StrayPart = omega arith
small BadTerminal = omega arith
small LabelTwice = omega arith
small LabelMissing = omega arith
small JumpIntoBlock = omega arith
small TooManyStatements = omega arith
small TooDeep = omega arith
small RealName = omega arith
small DeclaredTwice = omega arith
small BadDimension = omega arith
small BadParameter = omega arith
small CommonTwice = omega arith
small EquivalenceClash = omega arith
small EquivalenceExtendsBack = omega arith
small InitialMismatch = omega arith
small SubscriptCount = omega arith
small TypeMismatch = omega arith
small AssignToConstant = omega arith
small NotAnArray = omega arith
small NoMain = omega arith
small TwoMains = omega arith
small ModuleTwice = omega arith
small NoSuchModule = omega arith
small ArgumentCount = omega arith
small ArgumentType = omega arith
small Recursion = omega arith
small TooManyModules = omega arith

tests_as_key : (la na lb nb : ℕ) → na < 64 → nb < 64 → (nat_lt la lb || (nat_eq la lb && nat_lt na nb)) ≡ nat_lt (la * 64 + na) (lb * 64 + nb)
tests_as_key la na lb nb h k = grind (arith, nat_tests)

before-key : (a b : Refusal) → is_before a b ≡ nat_lt (key a) (key b)
unfolding is_before
before-key a b = tests_as_key a.line (number_of a.code) b.line (number_of b.code) (small a.code) (small b.code)

pub before-yes : (a b : Refusal) → is_before a b ≡ true → key a < key b
before-yes a b h = let e = sym (before-key a b) ∙ h in grind (arith, nat_tests)

pub before-no : (a b : Refusal) → is_before a b ≡ false → key b ≤ key a
before-no a b h = let e = sym (before-key a b) ∙ h in grind (arith, nat_tests)

pub is-before : (a b : Refusal) → key a < key b → is_before a b ≡ true
is-before a b h = let e : nat_lt (key a) (key b) ≡ true = grind (arith, nat_tests) in before-key a b ∙ e

pub not-before : (a b : Refusal) → key b ≤ key a → is_before a b ≡ false
not-before a b h = let e : nat_lt (key a) (key b) ≡ false = grind (arith, nat_tests) in before-key a b ∙ e

numbered : (f : Code) → code_numbered (number_of f) ≡ Some f
numbered NonAscii = refl
numbered Tab = refl
numbered BadLabelField = refl
numbered ContinuationFirst = refl
numbered TooManyContinuations = refl
numbered NoEnd = refl
numbered Syntax = refl
numbered OutOfProfile = refl
numbered RealConstant = refl
numbered NumberTooBig = refl
numbered NameTooLong = refl
numbered UnclosedDo = refl
numbered UnclosedIf = refl
numbered StrayPart = refl
numbered BadTerminal = refl
numbered LabelTwice = refl
numbered LabelMissing = refl
numbered JumpIntoBlock = refl
numbered TooManyStatements = refl
numbered TooDeep = refl
numbered RealName = refl
numbered DeclaredTwice = refl
numbered BadDimension = refl
numbered BadParameter = refl
numbered CommonTwice = refl
numbered EquivalenceClash = refl
numbered EquivalenceExtendsBack = refl
numbered InitialMismatch = refl
numbered SubscriptCount = refl
numbered TypeMismatch = refl
numbered AssignToConstant = refl
numbered NotAnArray = refl
numbered NoMain = refl
numbered TwoMains = refl
numbered ModuleTwice = refl
numbered NoSuchModule = refl
numbered ArgumentCount = refl
numbered ArgumentType = refl
numbered Recursion = refl
numbered TooManyModules = refl

same-number : (f g : Code) → number_of f ≡ number_of g → f ≡ g
same-number f g h = let e : Some f ≡ Some g = sym (numbered f) ∙ ap code_numbered h ∙ numbered g in cc

pub same-key : (a b : Refusal) → key a ≡ key b → a ≡ b
same-key a b h =
    let s = small a.code in
    let t = small b.code in
    let l : a.line ≡ b.line = omega arith in
    let n : number_of a.code ≡ number_of b.code = omega arith in
    let f = same-number a.code b.code n in
    let found : ℕ → Code → Refusal = λ l f. record { line = l; code = f } in
    ap (λ l. found l a.code) l ∙ ap (λ f. found b.line f) f

-- ---- the first of two

abbrev pub first : Refusal → Refusal → Refusal
first a b = earliest a (Some b)

pub is-first : (a b : Refusal) → key a < key b → first a b ≡ a
is-first a b h = rw (is-before a b h) refl

pub not-first : (a b : Refusal) → key b ≤ key a → first a b ≡ b
not-first a b h = rw (not-before a b h) refl

-- one of two is the first
pub data Firsts (a b : Refusal) : Type 0 where
  one : key a < key b → first a b ≡ a → Firsts a b
  other : key b ≤ key a → first a b ≡ b → Firsts a b

firsts-by : (a b : Refusal) (v : Bool) → is_before a b ≡ v → Firsts a b
firsts-by a b true h = one (before-yes a b h) (is-first a b (before-yes a b h))
firsts-by a b false h = other (before-no a b h) (not-first a b (before-no a b h))

pub firsts : (a b : Refusal) → Firsts a b
firsts a b = firsts-by a b (is_before a b) refl

both : (a b : Refusal) → Firsts a b → Firsts b a → first a b ≡ first b a
both a b (one h e) (one k f) = absurd (omega arith)
both a b (one h e) (other k f) = e ∙ sym f
both a b (other h e) (one k f) = e ∙ sym f
both a b (other h e) (other k f) = let s : key b ≡ key a = omega arith in e ∙ same-key b a s ∙ sym f

pub first-comm : (a b : Refusal) → first a b ≡ first b a
first-comm a b = both a b (firsts a b) (firsts b a)

nested : (a b c : Refusal) → Firsts a b → Firsts b c → first a (first b c) ≡ first (first a b) c
nested a b c (one h e) (one k f) = ap (first a) f ∙ e ∙ sym (is-first a c (omega arith)) ∙ ap (λ x. first x c) (sym e)
nested a b c (one h e) (other k f) = ap (first a) f ∙ ap (λ x. first x c) (sym e)
nested a b c (other h e) (one k f) = ap (first a) f ∙ e ∙ sym f ∙ ap (λ x. first x c) (sym e)
nested a b c (other h e) (other k f) = ap (first a) f ∙ not-first a c (omega arith) ∙ sym f ∙ ap (λ x. first x c) (sym e)

pub first-assoc : (a b c : Refusal) → first a (first b c) ≡ first (first a b) c
first-assoc a b c = nested a b c (firsts a b) (firsts b c)

pub first-swap : (a b c : Refusal) → first a (first b c) ≡ first b (first a c)
first-swap a b c = first-assoc a b c ∙ ap (λ x. first x c) (first-comm a b) ∙ sym (first-assoc b a c)

-- ---- a fault that is met, and the first of others

pub refuse_if-first : (w : Bool) (line : ℕ) (f : Code) (x y : Option Refusal) → refuse_if w line f (first_fault x y) ≡ first_fault x (refuse_if w line f y)
unfolding refuse_if
refuse_if-first false line f x y = refl
refuse_if-first true line f None y = refl
refuse_if-first true line f (Some a) None = ap Some (first-comm (record { line = line; code = f }) a)
refuse_if-first true line f (Some a) (Some b) = ap Some (first-swap (record { line = line; code = f }) a b)

judged-by : (v : Bool) (line : ℕ) (w : Bool) (x y : Option Refusal)
    → (if v then refuse_if w line JumpIntoBlock (first_fault x y) else refuse_if true line LabelMissing (first_fault x y))
    ≡ first_fault x (if v then refuse_if w line JumpIntoBlock y else refuse_if true line LabelMissing y)
judged-by true line w x y = refuse_if-first w line JumpIntoBlock x y
judged-by false line w x y = refuse_if-first true line LabelMissing x y

pub jumps_first : (spans : List Span) (landings : List Landing) (js : List Jump) (x y : Option Refusal)
    → all_judged spans landings js (first_fault x y) ≡ first_fault x (all_judged spans landings js y)
jumps_first spans landings [] x y = refl
jumps_first spans landings (j ∷ js) x y =
    ap (all_judged spans landings js) (judged-by (stands landings j.label) j.line (not (reaches spans landings j)) x y)
    ∙ jumps_first spans landings js x (check_jump spans landings j y)

-- ---- a fault that would not be the first

-- it changes nothing
pub spared : (w : Bool) (line : ℕ) (f : Code) (found : Option Refusal) → refuse_if true line f found ≡ found → refuse_if w line f found ≡ found
unfolding refuse_if
spared true line f found h = h
spared false line f found h = refl

kept : (new old : Refusal) → first new old ≡ old → key old ≤ key new
kept new old h = kept_by (firsts new old) h
  where
    kept_by : Firsts new old → first new old ≡ old → key old ≤ key new
    kept_by (one k e) h = let s : key new ≡ key old = ap key (sym e ∙ h) in omega arith
    kept_by (other k e) h = k

-- nor does one at its line with a higher number
later : (line : ℕ) (f g : Code) (found : Option Refusal) → number_of f ≤ number_of g → refuse_if true line f found ≡ found → refuse_if true line g found ≡ found
unfolding refuse_if
later line f g None n h = cc
later line f g (Some old) n h =
    let new : Refusal = record { line = line; code = f } in
    let e : first new old ≡ old = cc in
    let k = kept new old e in
    ap Some (not-first (record { line = line; code = g }) old (omega arith))

no_fault-by : (v w : Bool) (line : ℕ) (found : Option Refusal) → refuse_if true line LabelMissing found ≡ found
    → (if v then refuse_if w line JumpIntoBlock found else refuse_if true line LabelMissing found) ≡ found
no_fault-by true w line found h = spared w line JumpIntoBlock found (later line LabelMissing JumpIntoBlock found (omega arith) h)
no_fault-by false w line found h = h

pub no_fault : (spans : List Span) (landings : List Landing) (j : Jump) (found : Option Refusal)
    → refuse_if true j.line LabelMissing found ≡ found → check_jump spans landings j found ≡ found
no_fault spans landings j found h = no_fault-by (stands landings j.label) (not (reaches spans landings j)) j.line found h
