-- Each line that is added for sets of regions is read as a region of the set of its statement.
use Rattle.std.proofs.Common.{◌≡◌, inl, inr, ℕ, Bool, true, false, not, List, [], ◌∷◌, ◌++◌, Option, Some, None, refl}
use Rattle.std.specs.Prelude.{if◌then◌else◌}
use Rattle.std.specs.List.{AllByRecursion}
use Rattle.f77_ast.specs.Trees.{StmtTree, WhatTree, ArmTree, ArmTrees, ElseTree, LoopTree, StmtTrees}
use Rattle.f77_ast.specs.Trees as tree
use Rattle.f77_ast.specs.Hidden.{is_hidden}
use Rattle.f77_printer.specs.declared.added.Added.{Added}
use Rattle.f77_ast.specs.declared.results.Results.{Results}
use Rattle.preconditions.specs.transformer_algebra.Laws.{In, here, there}
use Rattle.preconditions.specs.transformers.Lists.{value_at}
use Rattle.result_lines.specs.ScalarLines.{says_changes}
use Rattle.system_text.specs.Reading.{Bytes}
use Rattle.in_out_regions.specs.region_sets.declared.region.Region.{Region}
use Rattle.result_lines.specs.RegionLines.{set_lines, found_lines, visible_lines, own_lines, stmt_lines, part_lines, list_lines, arms_lines, arm_lines, else_lines, loop_lines, entry_lines, region_lines_of}
use Rattle.laws_lines.specs.RegionTexts.Printed.{AreOther, IsReadable}
use Rattle.laws_lines.specs.RegionTexts.Added.{AreReadable, IsThere, MeansRegion, AddedLinesReadBack}
use Rattle.laws_lines.proofs.RegionTexts.LineBack.{region_lines_read_back}
use Rattle.fx_lists.proofs.Lists.{each_append}

module _ (names : List Bytes) (sets : Results (List Region)) (are : AreOther names) (ok : AreReadable names sets) where
  abbrev Mean : List Added → Type 0
  Mean xs = AllByRecursion (MeansRegion names sets) xs

  both : (xs ys : List Added) → Mean xs → Mean ys → Mean (xs ++ ys)
  both xs ys h k = each_append (MeansRegion names sets) xs ys h k

  set_means : (n : ℕ) (rs : List Region) → AllByRecursion (IsReadable names) rs → ((r : Region) → In r rs → IsThere sets n r) → Mean (set_lines names n rs)
  set_means n [] h there_is = tt
  set_means n (r ∷ rs) h there_is =
      ((r, region_lines_read_back names r are h.0, there_is r here), set_means n rs h.1 (λ q i. there_is q (there i)))

  found_means : (n : ℕ) → Mean (found_lines names n (value_at sets.at n))
  found_means n = go (value_at sets.at n) refl
    where
      go : (o : Option (List Region)) → value_at sets.at n ≡ o → Mean (found_lines names n o)
      go None e = tt
      go (Some rs) e = set_means n rs (ok.at n rs e) (λ r i. inl (rs, e, i))

  visible_means : (n : ℕ) (w : WhatTree) → Mean (visible_lines n w names sets.at)
  visible_means n w = go (says_changes w)
    where
      go : (b : Bool) → Mean (if b then found_lines names n (value_at sets.at n) else [])
      go true = found_means n
      go false = tt

  own_means : (n : ℕ) (w : WhatTree) → Mean (own_lines n w names sets.at)
  own_means n w = go (not (is_hidden n))
    where
      go : (b : Bool) → Mean (if b then visible_lines n w names sets.at else [])
      go true = visible_means n w
      go false = tt

  mutual
    stmt_means : (s : StmtTree) → Mean (stmt_lines s names sets.at)
    stmt_means (tree.stmt n label w) = both (own_lines n w names sets.at) (part_lines w names sets.at) (own_means n w) (part_means w)

    part_means : (w : WhatTree) → Mean (part_lines w names sets.at)
    part_means (tree.assign x e) = tt
    part_means (tree.block_if arms other) = both (arms_lines arms names sets.at) (else_lines other names sets.at) (arms_mean arms) (else_means other)
    part_means (tree.logical_if e s) = tt
    part_means (tree.do_loop l) = loop_means l
    part_means (tree.call x es) = tt
    part_means (tree.goto l) = tt
    part_means tree.continue = tt
    part_means tree.return = tt
    part_means (tree.stop text) = tt
    part_means (tree.print es) = tt
    part_means (tree.read es) = tt

    list_means : (ss : StmtTrees) → Mean (list_lines ss names sets.at)
    list_means tree.no_stmts = tt
    list_means (tree.more_stmts s rest) = both (stmt_lines s names sets.at) (list_lines rest names sets.at) (stmt_means s) (list_means rest)

    arms_mean : (xs : ArmTrees) → Mean (arms_lines xs names sets.at)
    arms_mean tree.no_arms = tt
    arms_mean (tree.more_arms x rest) = both (arm_lines x names sets.at) (arms_lines rest names sets.at) (arm_means x) (arms_mean rest)

    arm_means : (x : ArmTree) → Mean (arm_lines x names sets.at)
    arm_means (tree.arm test body) = list_means body

    else_means : (x : ElseTree) → Mean (else_lines x names sets.at)
    else_means tree.no_else = tt
    else_means (tree.otherwise body) = list_means body

    loop_means : (l : LoopTree) → Mean (loop_lines l names sets.at)
    loop_means (tree.loop index first last step body) = list_means body

  entry_means : (main : Bool) → Mean (entry_lines main names sets.summary)
  entry_means true = tt
  entry_means false = set_means 0 sets.summary ok.summary (λ r i. inr (refl, i))

  pub all_mean : (main : Bool) (body : StmtTrees) → Mean (region_lines_of main body names sets)
  all_mean main body = both (entry_lines main names sets.summary) (list_lines body names sets.at) (entry_means main) (list_means body)

pub added_lines_read_back : AddedLinesReadBack
added_lines_read_back main body names sets h k = all_mean names sets h k main body
