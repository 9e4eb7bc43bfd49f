-- The text of a part of a specification statement that is read weighs no more than what was read.
use Rattle.std.proofs.Common.{◌≡◌, ℕ, ◌+◌, ◌≤◌, List, [], ◌∷◌, length, refl, ap, arith, Some, None, Bool, true, false, if◌then◌else◌}
use Rattle.std.specs.Prelude.{codes, nat_eq, nat_le}
use Rattle.std.specs.Char.{is_ascii_uppercase}
use Rattle.std.proofs.lemmas.Bool.{eq-eqb}
use Rattle.f77_ast.specs.declared.decl.Scalar.{Scalar}
use Rattle.f77_ast.specs.declared.decl.Scalar.TheVariants.{Int, Log}
use Rattle.f77_ast.specs.declared.decl.Letters.{Letters}
use Rattle.f77_ast.specs.declared.decl.ImplicitPart.{ImplicitPart}
use Rattle.f77_ast.specs.declared.decl.SaveItem.{SaveItem}
use Rattle.f77_ast.specs.declared.decl.SaveItem.TheVariants.{Name, Block}
use Rattle.f77_ast.specs.Trees.{ExprTree}
use Rattle.f77_ast.specs.DeclTrees.{ExtentTree, EntityTree, SettingTree}
use Rattle.f77_exprs.specs.State.{State, parse_word, or_done, ◌>>=◌}
use Rattle.f77_exprs.specs.Lexical.{name_at}
use Rattle.f77_exprs.specs.Grammar.{comma, items, more_by, expression, variable}
use Rattle.f77_statements.specs.Lists.{ending}
use Rattle.f77_statements.specs.Parts.{letter_of, letter, letters, ranges, implicit_part, upper, extent, bounds, entity, array, setting, group, block_name, save_item}
use Rattle.f77_statements.specs.Parts as parts
use Rattle.f77_printer.specs.ExprText.{expr_text}
use Rattle.f77_printer.specs.DeclText.{joined_by, extent_text, bounds_text, entity_text, letters_text, scalar_text, part_text, setting_text, group_text, save_item_text}
use Rattle.roundtrip_programs.specs.Statements.Weights.{Weight, weigh}
use Rattle.roundtrip_programs.proofs.Statements.Weighing.{weigh-append, Within, Light, widen, seq, then_read, then_word, else_word, done_word}
use Rattle.roundtrip_programs.proofs.Statements.LightLists.{parted, parted-push, ew, joined_weight, comma_costs, more_by-light, items-light, ending-light}
use Rattle.roundtrip_programs.proofs.Statements.LightNumbers.{name-light}
use Rattle.roundtrip_programs.proofs.Statements.LightExprs.{expression_light, variable_light}

module _ (w : Weight) where
  -- ---- IMPLICIT

  letter_by : (b : Bool) (c : ℕ) (cs : List ℕ) (s : State) (e : ℕ) → s.rest ≡ c ∷ cs → Within w (if b then Some (c, record s { rest = cs }) else None) (e + weigh w s.rest) (λ x. e + w.of x)
  letter_by true c cs s e q = let k : weigh w s.rest ≡ w.of c + weigh w cs = ap (weigh w) q in omega arith
  letter_by false c cs s e q = tt

  letter_in : (t : List ℕ) (s : State) (e : ℕ) → s.rest ≡ t → Within w (letter_of s t) (e + weigh w s.rest) (λ x. e + w.of x)
  letter_in [] s e q = tt
  letter_in (c ∷ cs) s e q = letter_by (is_ascii_uppercase c) c cs s e q

  letter-light : Light w letter w.of
  unfolding letter
  letter-light e s = letter_in s.rest s e refl

  abbrev lw : Letters → ℕ
  lw l = weigh w (letters_text l)

  letters_one : (a : ℕ) → lw (record { first = a; last = a }) ≡ w.of a + 0
  letters_one a = let e : nat_eq a a ≡ true = eq-eqb a a refl in rw e

  letters_by : (b : Bool) (a z : ℕ) → weigh w (if b then a ∷ [] else a ∷ 45 ∷ z ∷ []) ≤ w.of a + (w.of 45 + w.of z)
  letters_by true a z = omega arith
  letters_by false a z = omega arith

  letters_two : (a z : ℕ) → lw (record { first = a; last = z }) ≤ w.of a + (w.of 45 + w.of z)
  letters_two a z = letters_by (nat_eq a z) a z

  range_by : (b : Bool) (a : ℕ) (l : ℕ × State) (e : ℕ) → Within w (if b then Some (record { first = a; last = l.0 }, l.1) else None) ((((e + w.of a) + weigh w (codes "-")) + w.of l.0) + weigh w l.1.rest) (λ x. e + lw x)
  range_by true a l e = omega (arith, letters_two a l.0)
  range_by false a l e = tt

  letters-light : Light w letters lw
  unfolding letters
  letters-light e s =
      then_read w letter w.of _ s e (λ x. e + lw x) letter-light
      (λ a. done_word w (codes "-") (record { first = a.0; last = a.0 }) a.1 (λ t. letter t >>= parts.range a.0) (e + w.of a.0) (λ x. e + lw x) (omega (arith, letters_one a.0))
      (λ r. then_read w letter w.of (parts.range a.0) (record a.1 { rest = r }) ((e + w.of a.0) + weigh w (codes "-")) (λ x. e + lw x) letter-light (λ l. range_by (nat_le a.0 l.0) a.0 l e)))

  abbrev pub pw : ImplicitPart → ℕ
  pw p = weigh w (part_text p)

  ranges-light : (sc : Scalar) (e : ℕ) (s : State) → Within w (ranges sc s) ((e + weigh w (scalar_text sc)) + weigh w s.rest) (λ p. e + pw p)
  unfolding ranges
  ranges-light sc e s =
      then_word w (codes "(") s _ (e + weigh w (scalar_text sc)) (λ p. e + pw p)
      (λ r. then_read w (ending (codes ")") (items letters)) (λ x. parted (w.of 44) lw x + weigh w (codes ")")) _ (record s { rest = r }) _ (λ p. e + pw p)
      (ending-light w (codes ")") (items letters) (parted (w.of 44) lw) (items-light w letters lw letters-light))
      (λ ls. simp (weigh-append w) (omega (arith, joined_weight w letters_text ls.0))))

  pub part-light : Light w implicit_part pw
  unfolding implicit_part
  part-light e s =
      else_word w (codes "INTEGER") s (ranges Int) _ e (λ p. e + pw p) (λ r. ranges-light Int e (record s { rest = r }))
      (else_word w (codes "LOGICAL") s (ranges Log) None e (λ p. e + pw p) (λ r. ranges-light Log e (record s { rest = r })) tt)

  -- ---- names with bounds

  abbrev xw : ExtentTree → ℕ
  xw x = weigh w (extent_text x)

  upper-light : (low : ExprTree) (e : ℕ) (s : State) → Within w (upper low s) (((e + ew w low) + weigh w (codes ":")) + weigh w s.rest) (λ x. e + xw x)
  unfolding upper
  upper-light low e s =
      else_word w (codes "*") s (λ t. Some (record { low = Some low; high = None }, t)) _ ((e + ew w low) + weigh w (codes ":")) (λ x. e + xw x) (λ r. simp (weigh-append w) (omega arith))
      (then_read w expression (ew w) (λ x. Some (record { low = Some low; high = Some x.0 }, x.1)) s ((e + ew w low) + weigh w (codes ":")) (λ x. e + xw x) (expression_light w) (λ x. simp (weigh-append w) (omega arith)))

  extent-light : Light w extent xw
  unfolding extent
  extent-light e s =
      else_word w (codes "*") s (λ t. Some (record { low = None; high = None }, t)) _ e (λ x. e + xw x) (λ r. omega arith)
      (then_read w expression (ew w) (λ x. or_done (record { low = None; high = Some x.0 }) x.1 (parse_word (codes ":") x.1) (upper x.0)) s e (λ x. e + xw x) (expression_light w)
      (λ x. done_word w (codes ":") (record { low = None; high = Some x.0 }) x.1 (upper x.0) (e + ew w x.0) (λ x. e + xw x) (omega arith) (λ r. upper-light x.0 e (record x.1 { rest = r }))))

  abbrev pub nw : EntityTree → ℕ
  nw n = weigh w (entity_text n)

  bounds_weight : (xs : List ExtentTree) → weigh w (bounds_text xs) ≤ weigh w (codes "(") + (parted (w.of 44) xw xs + weigh w (codes ")"))
  bounds_weight [] = omega arith
  bounds_weight (x ∷ xs) = omega (arith, weigh-append w (joined_by extent_text (x ∷ xs)) (codes ")"), joined_weight w extent_text (x ∷ xs))

  bounds-light : (n : List ℕ) (e : ℕ) (s : State) → Within w (bounds n s) (((e + weigh w n) + weigh w (codes "(")) + weigh w s.rest) (λ x. e + nw x)
  unfolding bounds
  bounds-light n e s =
      then_read w (ending (codes ")") (items extent)) (λ x. parted (w.of 44) xw x + weigh w (codes ")")) _ s ((e + weigh w n) + weigh w (codes "(")) (λ x. e + nw x)
      (ending-light w (codes ")") (items extent) (parted (w.of 44) xw) (items-light w extent xw extent-light))
      (λ b. omega (arith, weigh-append w n (bounds_text b.0), bounds_weight b.0))

  pub entity-light : Light w entity nw
  unfolding entity
  entity-light e s =
      then_read w name_at (weigh w) (λ n. or_done (record { name = n.0; bounds = [] }) n.1 (parse_word (codes "(") n.1) (bounds n.0)) s e (λ x. e + nw x) (name-light w)
      (λ n. done_word w (codes "(") (record { name = n.0; bounds = [] }) n.1 (bounds n.0) (e + weigh w n.0) (λ x. e + nw x) (simp (weigh-append w) (omega arith)) (λ r. bounds-light n.0 e (record n.1 { rest = r })))

  pub array-light : Light w array nw
  unfolding array
  array-light e s =
      then_read w name_at (weigh w) _ s e (λ x. e + nw x) (name-light w)
      (λ n. then_word w (codes "(") n.1 (λ t. bounds n.0 t) (e + weigh w n.0) (λ x. e + nw x) (λ r. bounds-light n.0 e (record n.1 { rest = r })))

  -- ---- PARAMETER, EQUIVALENCE, SAVE

  abbrev pub sw : SettingTree → ℕ
  sw x = weigh w (setting_text x)

  pub setting-light : Light w setting sw
  unfolding setting
  setting-light e s =
      then_read w name_at (weigh w) _ s e (λ x. e + sw x) (name-light w)
      (λ n. then_word w (codes "=") n.1 _ _ (λ x. e + sw x)
      (λ r. then_read w expression (ew w) _ (record n.1 { rest = r }) _ (λ x. e + sw x) (expression_light w) (λ x. simp (weigh-append w) (omega arith))))

  abbrev pub gw : List ExprTree → ℕ
  gw x = weigh w (group_text x)

  group_end : (a b : ExprTree) (t : State) (e : ℕ)
      → Within w (more_by comma variable (length t.rest) (a ∷ b ∷ []) t >>= λ vs. parse_word (codes ")") vs.1 >>= λ y. Some (vs.0, y))
      (((((e + weigh w (codes "(")) + ew w a) + weigh w (codes ",")) + ew w b) + weigh w t.rest) (λ x. e + gw x)
  group_end a b t e =
      let f : ℕ = e + weigh w (codes "(") in
      let L : List ExprTree → ℕ = parted (w.of 44) (ew w) in
      widen w (more_by comma variable (length t.rest) (a ∷ b ∷ []) t >>= λ vs. parse_word (codes ")") vs.1 >>= λ y. Some (vs.0, y))
      ((f + L (a ∷ b ∷ [])) + weigh w t.rest) ((((f + ew w a) + weigh w (codes ",")) + ew w b) + weigh w t.rest) (λ x. e + gw x) (omega arith)
      (seq w (more_by comma variable (length t.rest) (a ∷ b ∷ []) t) (λ vs. parse_word (codes ")") vs.1 >>= λ y. Some (vs.0, y)) ((f + L (a ∷ b ∷ [])) + weigh w t.rest) (λ xs. f + L xs) (λ x. e + gw x)
      (more_by-light w comma variable (w.of 44) (ew w) L (comma_costs w) (variable_light w) (parted-push (w.of 44) (ew w)) (length t.rest) (a ∷ b ∷ []) f t)
      (λ vs. then_word w (codes ")") vs.1 (λ y. Some (vs.0, y)) (f + L vs.0) (λ x. e + gw x)
      (λ r. omega (arith, weigh-append w (joined_by expr_text vs.0) (codes ")"), joined_weight w expr_text vs.0))))

  pub group-light : Light w group gw
  unfolding group
  group-light e s =
      then_word w (codes "(") s _ e (λ x. e + gw x)
      (λ r. then_read w variable (ew w) _ (record s { rest = r }) _ (λ x. e + gw x) (variable_light w)
      (λ v. then_word w (codes ",") v.1 _ _ (λ x. e + gw x)
      (λ q. then_read w variable (ew w) _ (record v.1 { rest = q }) _ (λ x. e + gw x) (variable_light w) (λ x. group_end v.0 x.0 x.1 e))))

  pub block_name-light : Light w block_name (λ n. weigh w n + weigh w (codes "/"))
  unfolding block_name
  block_name-light = ending-light w (codes "/") name_at (weigh w) (name-light w)

  abbrev pub iw : SaveItem → ℕ
  iw i = weigh w (save_item_text i)

  pub save-light : Light w save_item iw
  unfolding save_item
  save-light e s =
      else_word w (codes "/") s (λ t. block_name t >>= λ b. Some (Block b.0, b.1)) _ e (λ i. e + iw i)
      (λ r. then_read w block_name (λ n. weigh w n + weigh w (codes "/")) _ (record s { rest = r }) _ (λ i. e + iw i) block_name-light (λ b. simp (weigh-append w) (omega arith)))
      (then_read w name_at (weigh w) (λ n. Some (Name n.0, n.1)) s e (λ i. e + iw i) (name-light w) (λ n. omega arith))
