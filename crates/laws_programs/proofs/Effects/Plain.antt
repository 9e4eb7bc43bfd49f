-- Variables whose written names tell them apart.
use Rattle.std.proofs.Common.{◌≡◌, ℕ, Bool, true, false, List, [], ◌∷◌, ◌++◌, refl, sym, ap, subst, arith}
use Rattle.std.specs.Prelude.{filter, not, nat_eq, if◌then◌else◌}
use Rattle.std.specs.List.{list_any}
use Rattle.std.specs.declared.cmp.Ordering.{Ordering}
use Rattle.std.specs.declared.cmp.Ordering.TheVariants.{Less, Equal, Greater}
use Rattle.std.specs.Ordering.{match_ordering}
use Rattle.std.proofs.lemmas.Bool.{and_parts, not-true, or_parts, eq-eqb}
use Rattle.f77_ast.specs.declared.variable.Variable.{Variable}
use Rattle.f77_ast.specs.declared.variable.Variable.TheVariants.{Own, Block, Saved}
use Rattle.f77_ast.specs.declared.effect_set.EffectSet.{EffectSet}
use Rattle.f77_ast.specs.Variables.{variable_text, variable_cmp, merged, union}
use Rattle.f77_ast.specs.Effects.{unite}
use Rattle.laws_programs.specs.Effects.Tables.{is_plain}
use Rattle.laws_programs.proofs.Effects.Named.{text, key}
use Rattle.fx_lists.proofs.Lists.{head_of, no_byte}

abbrev pub IsPlain : Variable → Type 0
IsPlain (Own n) = Unit {0}
IsPlain (Block b) = Unit {0}
IsPlain (Saved m x) = is_plain m ≡ true

abbrev pub ArePlain : List Variable → Type 0
ArePlain [] = Unit {0}
ArePlain (v ∷ vs) = IsPlain v × ArePlain vs

-- ---- texts

-- up to the first `:`
pub same_parts : (m n x y : List ℕ) → list_any (λ d. nat_eq d 58) m ≡ false → list_any (λ d. nat_eq d 58) n ≡ false → m ++ 58 ∷ x ≡ n ++ 58 ∷ y → (m ≡ n) × (x ≡ y)
same_parts [] [] x y h i e = (refl, (head_of 58 58 x y e).1)
same_parts [] (c ∷ n) x y h i e = absurd (no_byte 58 c n i (sym (head_of 58 c x (n ++ 58 ∷ y) e).0))
same_parts (c ∷ m) [] x y h i e = absurd (no_byte 58 c m h (head_of c 58 (m ++ 58 ∷ x) y e).0)
same_parts (c ∷ m) (d ∷ n) x y h i e =
    let p = head_of c d (m ++ 58 ∷ x) (n ++ 58 ∷ y) e in
    let q = same_parts m n x y (or_parts (nat_eq c 58) (list_any (λ z. nat_eq z 58) m) h).1 (or_parts (nat_eq d 58) (list_any (λ z. nat_eq z 58) n) i).1 p.1 in
    (λ j. p.0 j ∷ q.0 j, q.1)

-- a block's text begins with `/`
pub no_slash : (m x y : List ℕ) → list_any (λ d. nat_eq d 47) m ≡ false → 47 ∷ y ≡ m ++ 58 ∷ x → ⊥
no_slash [] x y h e = let z : 47 ≡ 58 = (head_of 47 58 y x e).0 in omega (arith, z)
no_slash (c ∷ m) x y h e = no_byte 47 c m h (sym (head_of 47 c y (m ++ 58 ∷ x) e).0)

pub last_same : (b c : List ℕ) (z : ℕ) → b ++ z ∷ [] ≡ c ++ z ∷ [] → b ≡ c
last_same [] [] z e = refl
last_same [] (c ∷ cs) z e = absurd (none z c cs (head_of z c [] (cs ++ z ∷ []) e).1)
  where
    none : (z c : ℕ) (cs : List ℕ) → [] ≡ cs ++ z ∷ [] → ⊥
    none z c [] e = cc
    none z c (d ∷ cs) e = cc
last_same (b ∷ bs) [] z e = absurd (none z bs (head_of b z (bs ++ z ∷ []) [] e).1)
  where
    none : (z : ℕ) (cs : List ℕ) → cs ++ z ∷ [] ≡ [] → ⊥
    none z [] e = cc
    none z (d ∷ cs) e = cc
last_same (b ∷ bs) (c ∷ cs) z e =
    let p = head_of b c (bs ++ z ∷ []) (cs ++ z ∷ []) e in
    let q = last_same bs cs z p.1 in
    λ j. p.0 j ∷ q j

pub no_colon : (m : List ℕ) → is_plain m ≡ true → list_any (λ d. nat_eq d 58) m ≡ false
no_colon m h = not-true (list_any (λ d. nat_eq d 58) m) (and_parts (not (list_any (λ d. nat_eq d 58) m)) (not (list_any (λ d. nat_eq d 47) m)) h).0

pub no_slashes : (m : List ℕ) → is_plain m ≡ true → list_any (λ d. nat_eq d 47) m ≡ false
no_slashes m h = not-true (list_any (λ d. nat_eq d 47) m) (and_parts (not (list_any (λ d. nat_eq d 58) m)) (not (list_any (λ d. nat_eq d 47) m)) h).1

pub text_of : (x y : List ℕ) → text x ≡ text y → x ≡ y
text_of x y e = cc

pub same_variable : (v w : Variable) → IsPlain v → IsPlain w → key v ≡ key w → v ≡ w
same_variable (Own m) (Own n) p q e = let z : m ≡ n = cc in ap Own z
same_variable (Own m) (Block c) p q e = cc
same_variable (Own m) (Saved t y) p q e = cc
same_variable (Block b) (Own n) p q e = cc
same_variable (Block b) (Block c) p q e =
    let z = text_of (variable_text (Block b)) (variable_text (Block c)) e in
    ap Block (last_same b c 47 (head_of 47 47 (b ++ 47 ∷ []) (c ++ 47 ∷ []) z).1)
same_variable (Block b) (Saved t y) p q e = absurd (no_slash t y (b ++ 47 ∷ []) (no_slashes t q) (text_of (variable_text (Block b)) (variable_text (Saved t y)) e))
same_variable (Saved s x) (Own n) p q e = cc
same_variable (Saved s x) (Block c) p q e = absurd (no_slash s x (c ++ 47 ∷ []) (no_slashes s p) (sym (text_of (variable_text (Saved s x)) (variable_text (Block c)) e)))
same_variable (Saved s x) (Saved t y) p q e =
    let z = same_parts s t x y (no_colon s p) (no_colon t q) (text_of (variable_text (Saved s x)) (variable_text (Saved t y)) e) in
    λ i. Saved (z.0 i) (z.1 i)

-- ---- unions

plain_merged : (v : Variable) (others : List Variable → List Variable) → IsPlain v → ((ws : List Variable) → ArePlain ws → ArePlain (others ws)) → (ws : List Variable) → ArePlain ws → ArePlain (merged v others ws)
plain_merged v others p h [] q = (p, h [] tt)
plain_merged v others p h (w ∷ ws) q = go (variable_cmp v w) (plain_merged v others p h ws q.1)
  where
    go : (o : Ordering) → ArePlain (merged v others ws) → ArePlain (match_ordering o (v ∷ others (w ∷ ws)) (v ∷ others ws) (w ∷ merged v others ws))
    go Less ih = (p, h (w ∷ ws) q)
    go Equal ih = (p, h ws q.1)
    go Greater ih = (q.0, ih)

pub plain_union : (vs ws : List Variable) → ArePlain vs → ArePlain ws → ArePlain (union vs ws)
plain_union [] ws p q = q
plain_union (v ∷ vs) ws p q = plain_merged v (union vs) p.0 (λ zs h. plain_union vs zs p.1 h) ws q

pub plain_filter : (f : Variable → Bool) (vs : List Variable) → ArePlain vs → ArePlain (filter f vs)
plain_filter f [] p = tt
plain_filter f (v ∷ vs) p = go (f v) (plain_filter f vs p.1)
  where
    go : (b : Bool) → ArePlain (filter f vs) → ArePlain (if b then v ∷ filter f vs else filter f vs)
    go true ih = (p.0, ih)
    go false ih = ih

pub record PlainEffect (e : EffectSet) : Type 0 where
  pub reads : ArePlain e.reads
  pub writes : ArePlain e.writes

pub plain_unite : (a b : EffectSet) → PlainEffect a → PlainEffect b → PlainEffect (unite a b)
plain_unite a b p q = record { reads = plain_union a.reads b.reads p.reads q.reads; writes = plain_union a.writes b.writes p.writes q.writes }
