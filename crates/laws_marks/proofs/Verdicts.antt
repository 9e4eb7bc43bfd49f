-- What stands against a DO in its variables, and of which of them iterations have copies.
use Rattle.std.proofs.Common.{◌≡◌, inl, inr, ℕ, ◌||◌, Bool, true, false, List, [], ◌∷◌, ◌++◌, Option, Some, None, refl, sym, ap, subst, true≢false}
use Rattle.std.specs.Prelude.{if◌then◌else◌, is_some}
use Rattle.std.specs.declared.cmp.Ordering.{Ordering}
use Rattle.std.specs.declared.cmp.Ordering.TheVariants.{Less, Equal, Greater}
use Rattle.std.specs.Ordering.{is_eq, match_ordering}
use Rattle.affine_systems.specs.declared.row.System.{System}
use Rattle.f77_ast.specs.Trees.{StmtTree, WhatTree, ArmTrees, ElseTree, LoopTree, StmtTrees}
use Rattle.f77_ast.specs.Trees as tree
use Rattle.f77_ast.specs.DeclTrees.{ModuleTree}
use Rattle.f77_ast.specs.Shapes.{walk_stmt, walk_what, walk_body, walk_arms, walk_else, walk_list}
use Rattle.f77_ast.specs.Symbols.{SymbolTree, number_from}
use Rattle.f77_ast.specs.declared.variable.Variable.{Variable as Named}
use Rattle.f77_ast.specs.declared.variable.Variable.TheVariants.{Own, Block, Saved}
use Rattle.f77_ast.specs.Variables.{variable_cmp, merged, union, same_variable}
use Rattle.preconditions.specs.transformer_algebra.Laws.{In, here, there}
use Rattle.f77_ast.specs.declared.marks.Kinds.{Kinds}
use Rattle.f77_ast.specs.declared.marks.Kinds.TheVariants.{WriteRead, ReadWrite, WriteWrite}
use Rattle.f77_ast.specs.declared.marks.Private.{Private}
use Rattle.f77_ast.specs.declared.marks.Private.TheVariants.{Yes, Name, Carried, Live}
use Rattle.in_out_regions.specs.region_sets.declared.region.Access.{Access}
use Rattle.in_out_regions.specs.region_sets.declared.region.Access.TheVariants.{Write}
use Rattle.in_out_regions.specs.region_sets.declared.region.Region.{Region}
use Rattle.loop_marker.specs.dependence_test.declared.body.LoopBody.{LoopBody}
use Rattle.loop_marker.specs.dependence_test.Conflicts.{kept_system}
use Rattle.loop_marker.specs.privatizer.Functions.{own_functions}
use Rattle.loop_marker.specs.privatizer.Private.{private_in}
use Rattle.loop_marker.specs.privatizer.Uses.{Uses}
use Rattle.loop_marker.specs.declared.verdict.Verdict.TheVariants.{Free, Copied}
use Rattle.loop_marker.specs.Jumps.{body_of}
use Rattle.loop_marker.specs.Marks.{Knowledge, is_in_bounds, is_other_result, with_kind, keeps, kept_kinds, or_of_index, kinds_of, unless_named, copy_answer, by_kinds, verdict_of}
use Rattle.loop_marker.specs.Variables.{own_variable, index_of, the_indexes, in_order_with, indexes_in, with_names, inner_in, is_write, written_in, is_among}
use Rattle.call_graph.specs.CallsIn.{Each}
use Rattle.f77_ast.proofs.SameLaws.{same_itself}
use Rattle.fx_lists.proofs.Booleans.{or_neither, or_there}
use Rattle.fx_lists.proofs.Orders.{same_numbers}
use Rattle.call_graph.proofs.EachLaws.{each_joined}
use Rattle.result_lines.specs.declared.reduction.Reduction.{Reduction}
use Rattle.laws_marks.specs.Verdicts.{IsCleared}
use Rattle.laws_marks.proofs.Marks.{copied_yes, unnamed_yes}

-- ---- variables

-- what is no other than a symbol is that symbol
own_first : (n : ℕ) (v : Named) → variable_cmp (Own n) v ≡ Equal → v ≡ Own n
own_first n (Own m) e = ap Own (sym (same_numbers n m e))
own_first n (Block b) e = cc
own_first n (Saved s x) e = cc

own_second : (n : ℕ) (v : Named) → variable_cmp v (Own n) ≡ Equal → v ≡ Own n
own_second n (Own m) e = ap Own (same_numbers m n e)
own_second n (Block b) e = cc
own_second n (Saved s x) e = cc

same_own : (n : ℕ) (v : Named) → same_variable v (Own n) ≡ true → v ≡ Own n
same_own n v e = own_second n v (go (variable_cmp v (Own n)) e)
  where
    go : (o : Ordering) → is_eq o ≡ true → o ≡ Equal
    go Less q = cc
    go Equal q = refl
    go Greater q = cc

-- ---- unions in which the first list has symbols alone

abbrev IsSymbol : Named → Type 0
IsSymbol (Own n) = Unit {0}
IsSymbol (Block b) = ⊥
IsSymbol (Saved s x) = ⊥

equal_symbol : (v w : Named) → IsSymbol v → variable_cmp v w ≡ Equal → w ≡ v
equal_symbol (Own n) w s e = own_first n w e
equal_symbol (Block b) w s e = absurd s
equal_symbol (Saved t x) w s e = absurd s

module _ (x v : Named) (symbol : IsSymbol v) (others : List Named → List Named) (h : (zs : List Named) → In x zs → In x (others zs)) where
  in_place : (w : Named) (ws : List Named) → variable_cmp v w ≡ Equal → In x (w ∷ ws) → In x (v ∷ others ws)
  in_place w ws e here = subst (λ z. In x (z ∷ others ws)) (equal_symbol v x symbol e) here
  in_place w ws e (there i) = there (h ws i)

  behind : (w : Named) (ws rest : List Named) → (In x ws → In x rest) → In x (w ∷ ws) → In x (w ∷ rest)
  behind w ws rest ih here = here
  behind w ws rest ih (there i) = there (ih i)

  in_merged : (ws : List Named) → In x ws → In x (merged v others ws)
  in_merged [] i = there (h [] i)
  in_merged (w ∷ ws) i = go (variable_cmp v w) refl (in_merged ws)
    where
      go : (o : Ordering) → variable_cmp v w ≡ o → (In x ws → In x (merged v others ws)) → In x (match_ordering o (v ∷ others (w ∷ ws)) (v ∷ others ws) (w ∷ merged v others ws))
      go Less e ih = there (h (w ∷ ws) i)
      go Equal e ih = in_place w ws e i
      go Greater e ih = behind w ws (merged v others ws) ih i

pub in_union : (x : Named) (vs ws : List Named) → Each IsSymbol vs → In x ws → In x (union vs ws)
in_union x [] ws s i = i
in_union x (v ∷ vs) ws s i = in_merged x v s.0 (union vs) (λ zs j. in_union x vs zs s.1 j) ws i

merged_symbols : (v : Named) → IsSymbol v → (others : List Named → List Named) → ((zs : List Named) → Each IsSymbol zs → Each IsSymbol (others zs)) → (ws : List Named) → Each IsSymbol ws → Each IsSymbol (merged v others ws)
merged_symbols v s others h [] t = (s, h [] tt)
merged_symbols v s others h (w ∷ ws) t = go (variable_cmp v w) (merged_symbols v s others h ws t.1)
  where
    go : (o : Ordering) → Each IsSymbol (merged v others ws) → Each IsSymbol (match_ordering o (v ∷ others (w ∷ ws)) (v ∷ others ws) (w ∷ merged v others ws))
    go Less ih = (s, h (w ∷ ws) t)
    go Equal ih = (s, h ws t.1)
    go Greater ih = (t.0, ih)

-- the first list is in the union
first_kept : (x v : Named) (vs rest : List Named) → (In x vs → In x rest) → In x (v ∷ vs) → In x (v ∷ rest)
first_kept x v vs rest h here = here
first_kept x v vs rest h (there i) = there (h i)

merged_left : (x v : Named) (vs : List Named) (others : List Named → List Named) → ((zs : List Named) → In x vs → In x (others zs)) → (ws : List Named) → In x (v ∷ vs) → In x (merged v others ws)
merged_left x v vs others h [] i = first_kept x v vs (others []) (h []) i
merged_left x v vs others h (w ∷ ws) i = go (variable_cmp v w) (merged_left x v vs others h ws i)
  where
    go : (o : Ordering) → In x (merged v others ws) → In x (match_ordering o (v ∷ others (w ∷ ws)) (v ∷ others ws) (w ∷ merged v others ws))
    go Less ih = first_kept x v vs (others (w ∷ ws)) (h (w ∷ ws)) i
    go Equal ih = first_kept x v vs (others ws) (h ws) i
    go Greater ih = there ih

pub in_first : (x : Named) (vs ws : List Named) → In x vs → In x (union vs ws)
in_first x [] ws i = elim i [ ]
in_first x (v ∷ vs) ws i = merged_left x v vs (union vs) (λ zs j. in_first x vs zs j) ws i

union_symbols : (vs ws : List Named) → Each IsSymbol vs → Each IsSymbol ws → Each IsSymbol (union vs ws)
union_symbols [] ws s t = t
union_symbols (v ∷ vs) ws s t = merged_symbols v s.0 (union vs) (λ zs z. union_symbols vs zs s.1 z) ws t

-- ---- the variables of DO statements are symbols

own_symbol : (o : Option ℕ) → Each IsSymbol (own_variable o)
own_symbol None = tt
own_symbol (Some n) = (tt, tt)

module _ (names : List (List ℕ)) where
  mutual
    stmt_symbols : (s : StmtTree) → Each IsSymbol (walk_stmt (the_indexes names) s)
    stmt_symbols (tree.stmt n label w) = what_symbols n label w

    what_symbols : (n : ℕ) (label : Option ℕ) (w : WhatTree) → Each IsSymbol (walk_what (the_indexes names) n label w)
    what_symbols n label (tree.assign a b) = tt
    what_symbols n label (tree.block_if arms other) = each_joined IsSymbol (walk_arms (the_indexes names) arms) (walk_else (the_indexes names) other) (arms_symbols arms) (else_symbols other)
    what_symbols n label (tree.logical_if test s) = stmt_symbols s
    what_symbols n label (tree.do_loop l) = loop_symbols l
    what_symbols n label (tree.call x es) = tt
    what_symbols n label (tree.goto l) = tt
    what_symbols n label tree.continue = tt
    what_symbols n label tree.return = tt
    what_symbols n label (tree.stop text) = tt
    what_symbols n label (tree.print es) = tt
    what_symbols n label (tree.read es) = tt

    loop_symbols : (l : LoopTree) → Each IsSymbol (index_of names l ++ walk_body (the_indexes names) l)
    loop_symbols (tree.loop index first last step body) = each_joined IsSymbol (own_variable (number_from 1 names index)) (walk_list (the_indexes names) body) (own_symbol (number_from 1 names index)) (list_symbols body)

    arms_symbols : (arms : ArmTrees) → Each IsSymbol (walk_arms (the_indexes names) arms)
    arms_symbols tree.no_arms = tt
    arms_symbols (tree.more_arms (tree.arm test body) rest) = each_joined IsSymbol (walk_list (the_indexes names) body) (walk_arms (the_indexes names) rest) (list_symbols body) (arms_symbols rest)

    else_symbols : (other : ElseTree) → Each IsSymbol (walk_else (the_indexes names) other)
    else_symbols tree.no_else = tt
    else_symbols (tree.otherwise body) = list_symbols body

    list_symbols : (ss : StmtTrees) → Each IsSymbol (walk_list (the_indexes names) ss)
    list_symbols tree.no_stmts = tt
    list_symbols (tree.more_stmts s rest) = each_joined IsSymbol (walk_stmt (the_indexes names) s) (walk_list (the_indexes names) rest) (stmt_symbols s) (list_symbols rest)

ordered_symbols : (so_far vs : List Named) → Each IsSymbol so_far → Each IsSymbol vs → Each IsSymbol (in_order_with so_far vs)
ordered_symbols so_far [] s t = s
ordered_symbols so_far (v ∷ vs) s t = ordered_symbols (union so_far (v ∷ [])) vs (union_symbols so_far (v ∷ []) s (t.0, tt)) t.1

indexes_symbols : (names : List (List ℕ)) (ss : StmtTrees) → Each IsSymbol (indexes_in names ss)
indexes_symbols names ss = ordered_symbols [] (walk_list (the_indexes names) ss) tt (list_symbols names ss)

-- ---- the results of functions

names_symbols : (names : List (List ℕ)) (so_far : List Named) (xs : List (List ℕ)) → Each IsSymbol so_far → Each IsSymbol (with_names names so_far xs)
names_symbols names so_far [] s = s
names_symbols names so_far (x ∷ xs) s =
    let own = own_variable (number_from 1 names x) in
    names_symbols names (union so_far own) xs (union_symbols so_far own s (own_symbol (number_from 1 names x)))

names_stay : (names : List (List ℕ)) (v : Named) (so_far : List Named) (xs : List (List ℕ)) → In v so_far → In v (with_names names so_far xs)
names_stay names v so_far [] i = i
names_stay names v so_far (x ∷ xs) i = (let own = own_variable (number_from 1 names x) in names_stay names v (union so_far own) xs (in_first v so_far own i))

name_there : (names : List (List ℕ)) (n : ℕ) (so_far : List Named) (xs : List (List ℕ)) → Each IsSymbol so_far → (y : List ℕ) → In y xs → number_from 1 names y ≡ Some n → In (Own n) (with_names names so_far xs)
name_there names n so_far [] s y i e = elim i [ ]
name_there names n so_far (x ∷ xs) s y here e =
    let own = own_variable (number_from 1 names x) in
    names_stay names (Own n) (union so_far own) xs (in_union (Own n) so_far own s (subst (λ (o : Option ℕ). In (Own n) (own_variable o)) (sym e) here))
name_there names n so_far (x ∷ xs) s y (there i) e =
    let own = own_variable (number_from 1 names x) in
    name_there names n (union so_far own) xs (union_symbols so_far own s (own_symbol (number_from 1 names x))) y i e

pub inner_symbols : (names : List (List ℕ)) (m : ModuleTree) (l : LoopTree) → Each IsSymbol (inner_in names m l)
inner_symbols names m l = names_symbols names (indexes_in names (body_of l)) (own_functions m (body_of l)) (indexes_symbols names (body_of l))

pub function_inner : (names : List (List ℕ)) (m : ModuleTree) (l : LoopTree) (y : List ℕ) → In y (own_functions m (body_of l)) → (n : ℕ) → number_from 1 names y ≡ Some n → In (Own n) (inner_in names m l)
function_inner names m l y i n e = name_there names n (indexes_in names (body_of l)) (own_functions m (body_of l)) (indexes_symbols names (body_of l)) y i e

is_there : (v : Named) (vs : List Named) → In v vs → is_among vs v ≡ true
is_there v [] i = elim i [ ]
is_there v (w ∷ ws) here = ap (λ b. b || is_among ws v) (same_itself v)
is_there v (w ∷ ws) (there i) = or_there (same_variable v w) (is_among ws v) (is_there v ws i)

-- ---- what is written

write_kind : (a : Access) → a ≡ Write → is_write a ≡ true
write_kind a e = subst (λ z. is_write z ≡ true) (sym e) refl

pub in_written : (rs : List Region) (r : Region) → In r rs → r.kind ≡ Write → In r.variable (written_in rs)
in_written [] r i e = elim i [ ]
in_written (q ∷ rs) r here e = subst (λ b. In r.variable (if b then r.variable ∷ written_in rs else written_in rs)) (sym (write_kind r.kind e)) here
in_written (q ∷ rs) r (there i) e = go (is_write q.kind) (in_written rs r i e)
  where
    go : (b : Bool) → In r.variable (written_in rs) → In r.variable (if b then q.variable ∷ written_in rs else written_in rs)
    go true j = there j
    go false j = j

-- ---- verdicts

free_none : (ks : List Kinds) (p : Private) → by_kinds ks p ≡ Free → ks ≡ []
free_none [] p e = refl
free_none (k ∷ ks) Yes e = cc
free_none (k ∷ ks) Name e = cc
free_none (k ∷ ks) Carried e = cc
free_none (k ∷ ks) Live e = cc

none_of_index : (inner : Bool) (ks : List Kinds) → or_of_index inner ks ≡ [] → ks ≡ []
none_of_index inner [] e = refl
none_of_index inner (k ∷ ks) e = e

never_none : (ks : List Kinds) → or_of_index true ks ≡ [] → ⊥
never_none [] e = cc
never_none (k ∷ ks) e = cc

unnamed_no : (named : Bool) (p : Private) → unless_named named p ≡ Yes → named ≡ false
unnamed_no false p e = refl
unnamed_no true Yes e = cc
unnamed_no true Name e = cc
unnamed_no true Carried e = cc
unnamed_no true Live e = cc

pub own_number : (n m : ℕ) → Own n ≡ Own m → n ≡ m
own_number n m e = cc

with_none : (kept : Bool) (k : Kinds) (ks : List Kinds) → with_kind kept k ks ≡ [] → (kept ≡ false) × (ks ≡ [])
with_none true k ks e = cc
with_none false k ks e = (refl, e)

none_some : (o : Option System) → is_some o ≡ false → o ≡ None
none_some None e = refl
none_some (Some s) e = absurd (true≢false e)

none_kept : (ss : List SymbolTree) (b : LoopBody) (v : Named) → kept_kinds ss b v ≡ [] → (kinds : Kinds) → kept_system ss b v kinds ≡ None
none_kept ss b v e kinds = go kinds
  where
    first : (keeps ss b v WriteRead ≡ false) × (with_kind (keeps ss b v ReadWrite) ReadWrite (with_kind (keeps ss b v WriteWrite) WriteWrite []) ≡ [])
    first = with_none (keeps ss b v WriteRead) WriteRead (with_kind (keeps ss b v ReadWrite) ReadWrite (with_kind (keeps ss b v WriteWrite) WriteWrite [])) e

    second : (keeps ss b v ReadWrite ≡ false) × (with_kind (keeps ss b v WriteWrite) WriteWrite [] ≡ [])
    second = with_none (keeps ss b v ReadWrite) ReadWrite (with_kind (keeps ss b v WriteWrite) WriteWrite []) first.1

    third : keeps ss b v WriteWrite ≡ false
    third = (with_none (keeps ss b v WriteWrite) WriteWrite [] second.1).0

    go : (kinds : Kinds) → kept_system ss b v kinds ≡ None
    go WriteRead = none_some (kept_system ss b v WriteRead) first.0
    go ReadWrite = none_some (kept_system ss b v ReadWrite) second.0
    go WriteWrite = none_some (kept_system ss b v WriteWrite) third

module _ (k : Knowledge) (b : LoopBody) (u : Uses) (l : LoopTree) (inner : List Named) where
  copied_answer : (v : Named) → verdict_of k b u l inner v ≡ Copied → copy_answer k u l v ≡ Yes
  copied_answer v e = copied_yes (kinds_of k.symbols b inner v) (copy_answer k u l v) (go (same_variable v (Own b.index)) e)
    where
      go : (c : Bool) → (if c then Free else by_kinds (kinds_of k.symbols b inner v) (copy_answer k u l v)) ≡ Copied → by_kinds (kinds_of k.symbols b inner v) (copy_answer k u l v) ≡ Copied
      go true q = cc
      go false q = q

  pub copied_private : (v : Named) → verdict_of k b u l inner v ≡ Copied → private_in k.tree k.symbols u v ≡ Yes
  copied_private v e = unnamed_yes (is_in_bounds k.symbols l v || is_other_result k.tree k.symbols l v) (private_in k.tree k.symbols u v) (copied_answer v e)

  -- no function of which the module takes a value, but not the body
  pub copied_other : (v : Named) → verdict_of k b u l inner v ≡ Copied → is_other_result k.tree k.symbols l v ≡ false
  copied_other v e = (or_neither (is_in_bounds k.symbols l v) (is_other_result k.tree k.symbols l v) (unnamed_no (is_in_bounds k.symbols l v || is_other_result k.tree k.symbols l v) (private_in k.tree k.symbols u v) (copied_answer v e))).1

  -- a symbol of which each iteration has its own is free only as the variable of the DO
  pub free_index : (n : ℕ) → In (Own n) inner → verdict_of k b u l inner (Own n) ≡ Free → n ≡ b.index
  free_index n i e = go (same_variable (Own n) (Own b.index)) refl e
    where
      go : (c : Bool) → same_variable (Own n) (Own b.index) ≡ c → (if c then Free else by_kinds (kinds_of k.symbols b inner (Own n)) (copy_answer k u l (Own n))) ≡ Free → n ≡ b.index
      go true w q = own_number n b.index (same_own b.index (Own n) w)
      go false w q =
          absurd (never_none (kept_kinds k.symbols b (Own n))
          (subst (λ c. or_of_index c (kept_kinds k.symbols b (Own n)) ≡ []) (is_there (Own n) inner i) (free_none (kinds_of k.symbols b inner (Own n)) (copy_answer k u l (Own n)) q)))

  pub free_so : (r : Reduction) (v : Named) → verdict_of k b u l inner v ≡ Free → IsCleared k.tree k.symbols b r v
  free_so r v e = go (same_variable v (Own b.index)) refl e
    where
      go : (c : Bool) → same_variable v (Own b.index) ≡ c → (if c then Free else by_kinds (kinds_of k.symbols b inner v) (copy_answer k u l v)) ≡ Free → IsCleared k.tree k.symbols b r v
      go true w q = inl (same_own b.index v w)
      go false w q = inr (inl (none_kept k.symbols b v (none_of_index (is_among inner v) (kept_kinds k.symbols b v) (free_none (kinds_of k.symbols b inner v) (copy_answer k u l v) q))))

  -- the variable of the DO is free
  pub index_free : verdict_of k b u l inner (Own b.index) ≡ Free
  index_free = ap (λ c. if c then Free else by_kinds (kinds_of k.symbols b inner (Own b.index)) (copy_answer k u l (Own b.index))) (same_itself (Own b.index))
