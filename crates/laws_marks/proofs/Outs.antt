-- Each OUT region of a statement is of a variable of one of its WRITE regions.
use Rattle.std.proofs.Common.{◌≡◌, List, [], ◌∷◌, ◌++◌, Option, Some, None, Bool, true, false, refl}
use Rattle.std.specs.Prelude.{if◌then◌else◌}
use Rattle.affine_systems.specs.declared.row.System.{System}
use Rattle.f77_ast.specs.Trees.{WhatTree, ArmTrees, ElseTree, StmtTrees}
use Rattle.f77_ast.specs.Trees as tree
use Rattle.f77_ast.specs.Symbols.{SymbolTree}
use Rattle.f77_ast.specs.declared.results.At.{At}
use Rattle.preconditions.specs.transformer_algebra.Laws.{In, here, there}
use Rattle.preconditions.specs.transformers.Jumps.{unstructured}
use Rattle.in_out_regions.specs.region_sets.declared.region.Access.TheVariants.{Out}
use Rattle.in_out_regions.specs.region_sets.declared.region.Region.{Region}
use Rattle.in_out_regions.specs.region_sets.Trim.{trim}
use Rattle.in_out_regions.specs.Kinds.{is_write}
use Rattle.loop_marker.specs.out_regions.Known.{KnownTree}
use Rattle.loop_marker.specs.out_regions.Lists.{writes, used_behind, rest_of, first_out, rest_out, may_leave, used_around, any_out}
use Rattle.loop_marker.specs.out_regions.Statement.{body_out, only_out, loop_out, at_parts, at_arms, at_arm, at_else, at_any, at_used, at_rest, at_first, at_list}
use Rattle.loop_marker.specs.out_regions.Used.{all_out, is_used_beside, used_in, unless_empty, each_met, met_with, used_of, if_write, used}
use Rattle.call_graph.specs.CallsIn.{Each}
use Rattle.in_out_regions.specs.region_sets.Lists.{set_at}
use Rattle.call_graph.proofs.EachLaws.{each_joined}

-- an OUT region, and a region of its variable among these
pub record Written (ws : List Region) (r : Region) : Type 0 where
  pub region : Region
  pub is_one : In region ws
  pub same : region.variable ≡ r.variable
  pub kind : r.kind ≡ Out

abbrev pub AreWritten : List Region → List Region → Type 0
AreWritten ws rs = (r : Region) → In r rs → Written ws r

pub in_both : {A : Type 0} (P : A → Type 0) (xs ys : List A) → ((x : A) → In x xs → P x) → ((x : A) → In x ys → P x) → (x : A) → In x (xs ++ ys) → P x
in_both P [] ys f h x i = h x i
in_both P (a ∷ xs) ys f h x here = f x here
in_both P (a ∷ xs) ys f h x (there i) = in_both P xs ys (λ y j. f y (there j)) h x i

more : (ws : List Region) (w r : Region) → Written ws r → Written (w ∷ ws) r
more ws w r q = record { region = q.region; is_one = there q.is_one; same = q.same; kind = q.kind }

-- what is used of one is of its variable
alone : (w : Region) (ts : List System) (r : Region) → In r (unless_empty w ts) → Written (w ∷ []) r
alone w [] r j = elim j [ ]
alone w (t ∷ ts) r here = record { region = w; is_one = here; same = refl; kind = refl }
alone w (t ∷ ts) r (there j) = elim j [ ]

met : (w : Region) (o : Option Region) (r : Region) → In r (met_with w o) → Written (w ∷ []) r
met w None r j = elim j [ ]
met w (Some u) r j = alone w (trim (each_met w.pieces u.pieces)).pieces r j

beside : (w r : Region) → In r (record { variable = w.variable; kind = Out; exact = false; pieces = w.pieces } ∷ []) → Written (w ∷ []) r
beside w r here = record { region = w; is_one = here; same = refl; kind = refl }
beside w r (there j) = elim j [ ]

used_one : (ss : List SymbolTree) (us : List Region) (w : Region) (r : Region) → In r (used_of ss us w) → Written (w ∷ []) r
used_one ss us w r i = go (is_used_beside ss us w.variable) i
  where
    go : (b : Bool) → In r (if b then record { variable = w.variable; kind = Out; exact = false; pieces = w.pieces } ∷ [] else met_with w (used_in w.variable us)) → Written (w ∷ []) r
    go true j = beside w r j
    go false j = met w (used_in w.variable us) r j

first_of_more : (ws : List Region) (w r : Region) → Written (w ∷ []) r → Written (w ∷ ws) r
first_of_more ws w r q = record { region = w; is_one = here; same = one q.region q.is_one q.same; kind = q.kind }
  where
    one : (v : Region) → In v (w ∷ []) → v.variable ≡ r.variable → w.variable ≡ r.variable
    one v here e = e
    one v (there j) e = elim j [ ]

used_written : (ss : List SymbolTree) (us ws : List Region) → AreWritten ws (used ss us ws)
used_written ss us [] r i = elim i [ ]
used_written ss us (w ∷ ws) r i = in_both (Written (w ∷ ws)) (if_write ss us w) (used ss us ws) (λ q j. first_of_more ws w q (one q (is_write w.kind) j)) (λ q j. more ws w q (used_written ss us ws q j)) r i
  where
    one : (r : Region) (b : Bool) → In r (if b then used_of ss us w else []) → Written (w ∷ []) r
    one r true i = used_one ss us w r i
    one r false i = elim i [ ]

in_write : (v : Region) (ws : List Region) (b : Bool) (w : Region) → In w (if b then v ∷ writes ws else writes ws) → (In w (writes ws) → In w ws) → In w (v ∷ ws)
in_write v ws true w here f = here
in_write v ws true w (there j) f = there (f j)
in_write v ws false w j f = there (f j)

in_writes : (ws : List Region) (w : Region) → In w (writes ws) → In w ws
in_writes [] w i = elim i [ ]
in_writes (v ∷ ws) w i = in_write v ws (is_write v.kind) w i (λ j. in_writes ws w j)

used_set : (ss : List SymbolTree) (us ws : List Region) → AreWritten ws (used ss us (writes ws))
used_set ss us ws r i = (let q = used_written ss us (writes ws) r i in record { region = q.region; is_one = in_writes ws q.region q.is_one; same = q.same; kind = q.kind })

-- ---- at each statement

module _ (k : KnownTree) where
  abbrev pub IsWrittenAt : At (List Region) → Type 0
  IsWrittenAt a = AreWritten (set_at k.accesses a.id) a.value

  either_written : (whole : Bool) (ss : StmtTrees) (out : List Region) → Each IsWrittenAt (at_any ss k (used_around k whole ss out)) → Each IsWrittenAt (at_rest whole ss k out) → Each IsWrittenAt (at_list whole ss k out)
  either_written whole ss out = go (unstructured whole ss)
    where
      go : (b : Bool) → Each IsWrittenAt (at_any ss k (used_around k whole ss out)) → Each IsWrittenAt (at_rest whole ss k out) → Each IsWrittenAt (if b then at_any ss k (used_around k whole ss out) else at_rest whole ss k out)
      go true a r = a
      go false a r = r

  mutual
    parts_written : (w : WhatTree) (out : List Region) → Each IsWrittenAt (at_parts w k out)
    parts_written (tree.assign a b) out = tt
    parts_written (tree.block_if arms other) out = each_joined IsWrittenAt (at_arms arms k out) (at_else other k out) (arms_written arms out) (else_written other out)
    parts_written (tree.logical_if e (tree.stmt n label w)) out = (used_set k.scope.symbols (all_out (any_out k out n)) (set_at k.accesses n), parts_written w (only_out k n out))
    parts_written (tree.do_loop (tree.loop index first last step body)) out = either_written false body (loop_out k (tree.loop index first last step body) out) (any_written body (used_around k false body (loop_out k (tree.loop index first last step body) out))) (rest_written false body (loop_out k (tree.loop index first last step body) out))
    parts_written (tree.call x es) out = tt
    parts_written (tree.goto l) out = tt
    parts_written tree.continue out = tt
    parts_written tree.return out = tt
    parts_written (tree.stop text) out = tt
    parts_written (tree.print es) out = tt
    parts_written (tree.read es) out = tt

    arms_written : (arms : ArmTrees) (out : List Region) → Each IsWrittenAt (at_arms arms k out)
    arms_written tree.no_arms out = tt
    arms_written (tree.more_arms (tree.arm e body) rest) out = each_joined IsWrittenAt (at_arm (tree.arm e body) k out) (at_arms rest k out) (either_written false body (body_out k false body out) (any_written body (used_around k false body (body_out k false body out))) (rest_written false body (body_out k false body out))) (arms_written rest out)

    else_written : (other : ElseTree) (out : List Region) → Each IsWrittenAt (at_else other k out)
    else_written tree.no_else out = tt
    else_written (tree.otherwise body) out = either_written false body (body_out k false body out) (any_written body (used_around k false body (body_out k false body out))) (rest_written false body (body_out k false body out))

    any_written : (ss : StmtTrees) (us : List Region) → Each IsWrittenAt (at_any ss k us)
    any_written tree.no_stmts us = tt
    any_written (tree.more_stmts (tree.stmt n label w) rest) us =
        each_joined IsWrittenAt (at_used (tree.stmt n label w) k us) (at_any rest k us) (used_set k.scope.symbols us (set_at k.accesses n), parts_written w (any_out k us n)) (any_written rest us)

    rest_written : (whole : Bool) (ss : StmtTrees) (out : List Region) → Each IsWrittenAt (at_rest whole ss k out)
    rest_written whole tree.no_stmts out = tt
    rest_written whole (tree.more_stmts (tree.stmt n label w) rest) out =
        let r = rest_of k whole rest in
        each_joined IsWrittenAt (at_first whole (tree.stmt n label w) k r out) (at_rest whole rest k (rest_out k n r out))
        (used_set k.scope.symbols (used_behind k (may_leave whole (tree.stmt n label w) r) n r out) (set_at k.accesses n), parts_written w (first_out k (may_leave whole (tree.stmt n label w) r) n r out)) (rest_written whole rest (rest_out k n r out))

  pub list_written : (whole : Bool) (ss : StmtTrees) (out : List Region) → Each IsWrittenAt (at_list whole ss k out)
  list_written whole ss out = either_written whole ss out (any_written ss (used_around k whole ss out)) (rest_written whole ss out)
