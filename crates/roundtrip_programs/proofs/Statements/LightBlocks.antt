-- The text of the blocks of COMMON and the groups of DATA that are read weighs no more than what was read.
use Rattle.std.proofs.Common.{◌≡◌, ℕ, ◌+◌, ◌≤◌, List, [], ◌∷◌, ◌++◌, length, refl, arith, Option, Some, None, Bool, true, false, if◌then◌else◌, decimal, pos}
use Rattle.std.specs.Prelude.{codes, option_map}
use Rattle.f77_ast.specs.declared.expr.UnaryOp.{UnaryOp}
use Rattle.f77_ast.specs.declared.expr.UnaryOp.TheVariants.{Plus, Minus}
use Rattle.f77_ast.specs.Operators.{unary_word}
use Rattle.f77_ast.specs.Trees.{int, log, unary}
use Rattle.f77_ast.specs.DeclTrees.{EntityTree, CommonTree, DataValueTree, DataTree}
use Rattle.f77_exprs.specs.Words.{after}
use Rattle.f77_exprs.specs.State.{State, parse_word, ◌>>=◌}
use Rattle.f77_exprs.specs.Lexical.{number, number_first}
use Rattle.f77_exprs.specs.Grammar.{items, items_by, more_by, variable, literal}
use Rattle.f77_statements.specs.Lists.{ending, past, skip_comma}
use Rattle.f77_statements.specs.Parts.{entity, block_name, unless, member_comma, members, block, first_block, or_this, next_block, integer, signed_integer, data_constant, repeat_value, value_or_count, data_value, data_group, next_of, next_group}
use Rattle.f77_printer.specs.ExprText.{expr_text}
use Rattle.f77_printer.specs.DeclText.{joined_by, entity_text, data_value_text}
use Rattle.roundtrip_programs.specs.Statements.Weights.{Weight, weigh}
use Rattle.roundtrip_programs.proofs.Statements.CommonBack.{named, first_named, rest_text, compact_commons}
use Rattle.roundtrip_programs.proofs.Statements.DataBack.{compact_data}
use Rattle.roundtrip_programs.proofs.Statements.Weighing.{weigh-append, Within, Light, widen, lower, then_read, else_word, done_word}
use Rattle.roundtrip_programs.proofs.Statements.LightLists.{led, parted, led-push, Pushes, ew, joined_weight, Cost, Costs, word_costs, cheaper, comma_costs, more_by-light, items_by-light, items-light, ending-light}
use Rattle.roundtrip_programs.proofs.Statements.LightNumbers.{number_light}
use Rattle.roundtrip_programs.proofs.Statements.LightExprs.{variable_light}
use Rattle.roundtrip_programs.proofs.Statements.LightParts.{nw, entity-light, block_name-light}

module _ (w : Weight) where
  -- ---- COMMON

  unless_cost : (o p : Option State) (s : State) (d : ℕ) → Cost w d s p → Cost w d s (unless o p)
  unless_cost None p s d h = h
  unless_cost (Some t) p s d h = tt

  member_costs : Costs w (w.of 44) member_comma
  member_costs s = unless_cost (parse_word (codes ",/") s) (parse_word (codes ",") s) s (w.of 44) (comma_costs w s)

  this_cost : (o p : Option State) (s : State) (d : ℕ) → Cost w d s o → Cost w d s p → Cost w d s (or_this o p)
  this_cost None p s d h g = g
  this_cost (Some t) p s d h g = h

  next_costs : Costs w (w.of 47) next_block
  next_costs s =
      this_cost (parse_word (codes ",/") s) (parse_word (codes "/") s) s (w.of 47) (cheaper w (w.of 47) (weigh w (codes ",/")) s (parse_word (codes ",/") s) (omega arith) (word_costs w (codes ",/") s))
      (cheaper w (w.of 47) (weigh w (codes "/")) s (parse_word (codes "/") s) (omega arith) (word_costs w (codes "/") s))

  abbrev jw : List EntityTree → ℕ
  jw ms = parted (w.of 44) (nw w) ms

  -- a block behind its first slash, and the first block
  abbrev kw : CommonTree → ℕ
  kw c = weigh w (named c.block) + jw c.members

  abbrev fw : CommonTree → ℕ
  fw c = weigh w (first_named c.block) + jw c.members

  first_by : (b : List ℕ) → weigh w (first_named b) ≤ w.of 47 + weigh w (named b)
  first_by [] = omega arith
  first_by (c ∷ cs) = omega arith

  named_le : (b : List ℕ) → weigh w (named b) ≤ weigh w b + weigh w (codes "/")
  named_le [] = omega arith
  named_le (c ∷ cs) = omega (arith, weigh-append w (c ∷ cs) (codes "/"))

  members-light : (b : List ℕ) (v : CommonTree → ℕ) (e : ℕ) (s : State) → ((ms : List EntityTree) → v (record { block = b; members = ms }) ≤ e + jw ms) → Within w (members b s) (e + weigh w s.rest) v
  unfolding members
  members-light b v e s h =
      then_read w (items_by member_comma entity) (parted (w.of 44) (nw w)) (λ ms. Some (record { block = b; members = ms.0 }, ms.1)) s e v
      (items_by-light w member_comma entity (w.of 44) (nw w) member_costs (entity-light w)) (λ ms. let l = h ms.0 in omega arith)

  block-light : Light w block kw
  unfolding block
  block-light e s =
      else_word w (codes "/") s (members []) _ e (λ c. e + kw c) (λ r. members-light [] (λ c. e + kw c) (e + weigh w (codes "/")) (record s { rest = r }) (λ ms. omega arith))
      (then_read w block_name (λ n. weigh w n + weigh w (codes "/")) (λ b. members b.0 b.1) s e (λ c. e + kw c) (block_name-light w)
      (λ b. members-light b.0 (λ c. e + kw c) (e + (weigh w b.0 + weigh w (codes "/"))) b.1 (λ ms. omega (arith, named_le b.0))))

  first-light : Light w first_block fw
  unfolding first_block
  first-light e s =
      else_word w (codes "/") s block (members [] s) e (λ c. e + fw c)
      (λ r. let t : State = record s { rest = r } in
      lower w (block t) ((e + weigh w (codes "/")) + weigh w r) (λ c. (e + weigh w (codes "/")) + kw c) (λ c. e + fw c) (λ c. omega (arith, first_by c.block)) (block-light (e + weigh w (codes "/")) t))
      (members-light [] (λ c. e + fw c) e s (λ ms. omega arith))

  abbrev pub lw : List CommonTree → ℕ
  lw [] = 0
  lw (c ∷ cs) = fw c + led (w.of 47) kw cs

  commons-push : Pushes (w.of 47) kw lw
  commons-push [] x = omega (arith, first_by x.block)
  commons-push (c ∷ cs) x = omega (arith, led-push (w.of 47) kw cs x)

  pub blocks_light : (e : ℕ) (s : State) → Within w (first_block s >>= λ b. more_by next_block block (length b.1.rest) (b.0 ∷ []) b.1) (e + weigh w s.rest) (λ cs. e + lw cs)
  blocks_light e s =
      then_read w first_block fw (λ b. more_by next_block block (length b.1.rest) (b.0 ∷ []) b.1) s e (λ cs. e + lw cs) first-light
      (λ b. widen w (more_by next_block block (length b.1.rest) (b.0 ∷ []) b.1) ((e + lw (b.0 ∷ [])) + weigh w b.1.rest) ((e + fw b.0) + weigh w b.1.rest) (λ cs. e + lw cs) (omega arith)
      (more_by-light w next_block block (w.of 47) kw lw next_costs block-light commons-push (length b.1.rest) (b.0 ∷ []) e b.1))

  rest_weight : (cs : List CommonTree) → weigh w (rest_text cs) ≡ led (w.of 47) kw cs
  rest_weight [] = refl
  rest_weight (c ∷ cs) =
      omega (arith, weigh-append w (named c.block) (joined_by entity_text c.members ++ rest_text cs), weigh-append w (joined_by entity_text c.members) (rest_text cs), joined_weight w entity_text c.members, rest_weight cs)

  pub commons_weight : (cs : List CommonTree) → weigh w (compact_commons cs) ≡ lw cs
  commons_weight [] = refl
  commons_weight (c ∷ cs) =
      omega (arith, weigh-append w (first_named c.block) (joined_by entity_text c.members ++ rest_text cs), weigh-append w (joined_by entity_text c.members) (rest_text cs), joined_weight w entity_text c.members, rest_weight cs)

  -- ---- DATA

  number_or : (b : Bool) (s : State) (e : ℕ) → number_first s.rest ≡ b → Within w (if b then Some (literal s) else None) (e + weigh w s.rest) (λ x. e + ew w x)
  number_or true s e h = number_light w s e h
  number_or false s e h = tt

  integer-light : Light w integer (ew w)
  unfolding integer
  integer-light e s = number_or (number_first s.rest) s e refl

  signed-light : (op : UnaryOp) (e : ℕ) (s : State) → Within w (signed_integer op s) ((e + weigh w (unary_word op)) + weigh w s.rest) (λ x. e + ew w x)
  unfolding signed_integer
  signed-light op e s =
      then_read w integer (ew w) (λ n. Some (unary op n.0, n.1)) s (e + weigh w (unary_word op)) (λ x. e + ew w x) integer-light (λ n. omega (arith, weigh-append w (unary_word op) (expr_text n.0)))

  constant-light : Light w data_constant (ew w)
  unfolding data_constant
  constant-light e s =
      else_word w (codes ".TRUE.") s (λ t. Some (log true, t)) _ e (λ x. e + ew w x) (λ r. omega arith)
      (else_word w (codes ".FALSE.") s (λ t. Some (log false, t)) _ e (λ x. e + ew w x) (λ r. omega arith)
      (else_word w (codes "+") s (signed_integer Plus) _ e (λ x. e + ew w x) (λ r. signed-light Plus e (record s { rest = r }))
      (else_word w (codes "-") s (signed_integer Minus) _ e (λ x. e + ew w x) (λ r. signed-light Minus e (record s { rest = r })) (integer-light e s))))

  abbrev vw : DataValueTree → ℕ
  vw v = weigh w (data_value_text v)

  counted-light : (n e : ℕ) (s : State) → Within w (value_or_count n s) ((e + weigh w (decimal n)) + weigh w s.rest) (λ v. e + vw v)
  unfolding value_or_count repeat_value
  counted-light n e s =
      done_word w (codes "*") (record { repeat = None; value = int (pos n) }) s (repeat_value n) (e + weigh w (decimal n)) (λ v. e + vw v) (omega arith)
      (λ r. then_read w data_constant (ew w) (λ c. Some (record { repeat = Some n; value = c.0 }, c.1)) (record s { rest = r }) ((e + weigh w (decimal n)) + weigh w (codes "*")) (λ v. e + vw v) constant-light
      (λ c. simp (weigh-append w) (omega arith)))

  value_by : (b : Bool) (s : State) (e : ℕ) → number_first s.rest ≡ b
      → Within w (if b then value_or_count (number s).0 (number s).1 else (data_constant s >>= λ c. Some (record { repeat = None; value = c.0 }, c.1))) (e + weigh w s.rest) (λ v. e + vw v)
  value_by true s e h =
      widen w (value_or_count (number s).0 (number s).1) ((e + weigh w (decimal (number s).0)) + weigh w (number s).1.rest) (e + weigh w s.rest) (λ v. e + vw v) (number_light w s e h) (counted-light (number s).0 e (number s).1)
  value_by false s e h = then_read w data_constant (ew w) (λ c. Some (record { repeat = None; value = c.0 }, c.1)) s e (λ v. e + vw v) constant-light (λ c. omega arith)

  value-light : Light w data_value vw
  unfolding data_value
  value-light e s = value_by (number_first s.rest) s e refl

  abbrev pub dw : DataTree → ℕ
  dw g = (parted (w.of 44) (ew w) g.targets + w.of 47) + (parted (w.of 44) vw g.values + w.of 47)

  group-light : Light w data_group dw
  unfolding data_group
  group-light e s =
      then_read w (ending (codes "/") (items variable)) (λ x. parted (w.of 44) (ew w) x + weigh w (codes "/")) _ s e (λ g. e + dw g)
      (ending-light w (codes "/") (items variable) (parted (w.of 44) (ew w)) (items-light w variable (ew w) (variable_light w)))
      (λ ts. then_read w (ending (codes "/") (items data_value)) (λ x. parted (w.of 44) vw x + weigh w (codes "/")) _ ts.1 _ (λ g. e + dw g)
      (ending-light w (codes "/") (items data_value) (parted (w.of 44) vw) (items-light w data_value vw value-light)) (λ vs. omega arith))

  pub past_light : (word : List ℕ) (o : Option (List ℕ)) (s : State) → Cost w 0 s (option_map (λ r. record s { rest = r }) o) → weigh w (past s (option_map (λ r. record s { rest = r }) o)).rest ≤ weigh w s.rest
  past_light word None s h = omega arith
  past_light word (Some r) s h = omega arith

  pub past_comma_light : (s : State) → weigh w (skip_comma s).rest ≤ weigh w s.rest
  past_comma_light s = past_light (codes ",") (after (codes ",") s.rest) s (cheaper w 0 (weigh w (codes ",")) s (parse_word (codes ",") s) (omega arith) (word_costs w (codes ",") s))

  group_cost : (t : List ℕ) (s : State) → Cost w 0 s (next_of t s)
  group_cost [] s = tt
  group_cost (c ∷ cs) s = omega (arith, past_comma_light s)

  group_costs : Costs w 0 next_group
  group_costs s = group_cost s.rest s

  pub groups_light : Light w (items_by next_group data_group) (parted 0 dw)
  groups_light = items_by-light w next_group data_group 0 dw group_costs group-light

  data_weight : (gs : List DataTree) → weigh w (compact_data gs) ≡ led 0 dw gs
  data_weight [] = refl
  data_weight (g ∷ gs) =
      omega (
        arith,
        weigh-append w (joined_by expr_text g.targets) (47 ∷ (joined_by data_value_text g.values ++ (47 ∷ compact_data gs))),
        weigh-append w (joined_by data_value_text g.values) (47 ∷ compact_data gs),
        joined_weight w expr_text g.targets,
        joined_weight w data_value_text g.values,
        data_weight gs,
      )

  pub groups_weight : (gs : List DataTree) → weigh w (compact_data gs) ≡ parted 0 dw gs
  groups_weight [] = refl
  groups_weight (g ∷ gs) = omega (arith, data_weight (g ∷ gs))
