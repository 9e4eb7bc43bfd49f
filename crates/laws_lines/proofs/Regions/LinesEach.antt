-- There is one line for each region that is shown.
use Rattle.std.proofs.Common.{◌≡◌, ℕ, Bool, true, false, not, if◌then◌else◌, List, [], ◌∷◌, ◌++◌, Option, Some, None, refl}
use Rattle.std.specs.List.{AllByRecursion, AllZip}
use Rattle.f77_ast.specs.Trees.{StmtTree, WhatTree, ArmTrees, ElseTree, LoopTree, StmtTrees}
use Rattle.f77_ast.specs.Trees as tree
use Rattle.f77_ast.specs.DeclTrees.{ModuleTree}
use Rattle.f77_ast.specs.Hidden.{is_hidden}
use Rattle.result_lines.specs.ScalarLines.{says_changes}
use Rattle.f77_printer.specs.declared.added.Added.{Added}
use Rattle.f77_ast.specs.declared.results.At.{At}
use Rattle.f77_ast.specs.declared.results.Results.{Results}
use Rattle.preconditions.specs.transformers.Lists.{value_at}
use Rattle.in_out_regions.specs.region_sets.declared.region.Region.{Region}
use Rattle.result_lines.specs.RegionLines.{line_of, set_lines, found_lines, visible_lines, own_lines, stmt_lines, part_lines, list_lines, arms_lines, else_lines, loop_lines, entry_lines, region_lines_of}
use Rattle.system_text.specs.Reading.{Bytes}
use Rattle.laws_lines.specs.RegionTexts.Reading.{read_region_line}
use Rattle.laws_lines.specs.RegionTexts.Printed.{as_shown}
use Rattle.laws_lines.specs.Regions.Lines.{regions_at, regions_found, visible_shown, own_shown, stmt_shown, part_shown, list_shown, arms_shown, else_shown, loop_shown, entry_regions, shown_regions, IsLineOf}

-- the line of a region is read as that region, as it is shown
abbrev pub IsTold : List Bytes → Region → Type 0
IsTold names r = read_region_line names (line_of names r) ≡ Some (as_shown r)

-- so it is of each region of the set of a statement, and of that of the module
pub record AreTold (names : List Bytes) (sets : Results (List Region)) : Type 0 where
  pub at : (n : ℕ) (rs : List Region) → value_at sets.at n ≡ Some rs → AllByRecursion (IsTold names) rs
  pub summary : AllByRecursion (IsTold names) sets.summary

zip_append : {A B : Type 0} (R : A → B → Type 0) (xs us : List A) (ys vs : List B) → AllZip R xs ys → AllZip R us vs → AllZip R (xs ++ us) (ys ++ vs)
zip_append R [] us [] vs h k = k
zip_append R [] us (y ∷ ys) vs h k = absurd h
zip_append R (x ∷ xs) us [] vs h k = absurd h
zip_append R (x ∷ xs) us (y ∷ ys) vs h k = (h.0, zip_append R xs us ys vs h.1 k)

module _ (names : List Bytes) (sets : Results (List Region)) (told : AreTold names sets) where
  abbrev Each : List Added → List (At Region) → Type 0
  Each xs rs = AllZip (IsLineOf names) xs rs

  both : (xs us : List Added) (rs qs : List (At Region)) → Each xs rs → Each us qs → Each (xs ++ us) (rs ++ qs)
  both xs us rs qs h k = zip_append (IsLineOf names) xs us rs qs h k

  of_set : (n : ℕ) (rs : List Region) → AllByRecursion (IsTold names) rs → Each (set_lines names n rs) (regions_at n rs)
  of_set n [] h = tt
  of_set n (r ∷ rs) h = ((refl, h.0), of_set n rs h.1)

  of_number : (n : ℕ) → Each (found_lines names n (value_at sets.at n)) (regions_found n (value_at sets.at n))
  of_number n = go (value_at sets.at n) refl
    where
      go : (o : Option (List Region)) → value_at sets.at n ≡ o → Each (found_lines names n o) (regions_found n o)
      go None e = tt
      go (Some rs) e = of_set n rs (told.at n rs e)

  of_visible : (n : ℕ) (w : WhatTree) → Each (visible_lines n w names sets.at) (visible_shown n w sets.at)
  of_visible n w = go (says_changes w)
    where
      go : (b : Bool) → Each (if b then found_lines names n (value_at sets.at n) else []) (if b then regions_found n (value_at sets.at n) else [])
      go true = of_number n
      go false = tt

  of_own : (n : ℕ) (w : WhatTree) → Each (own_lines n w names sets.at) (own_shown n w sets.at)
  of_own n w = go (not (is_hidden n))
    where
      go : (b : Bool) → Each (if b then visible_lines n w names sets.at else []) (if b then visible_shown n w sets.at else [])
      go true = of_visible n w
      go false = tt

  mutual
    of_stmt : (s : StmtTree) → Each (stmt_lines s names sets.at) (stmt_shown s sets.at)
    of_stmt (tree.stmt n label w) = both (own_lines n w names sets.at) (part_lines w names sets.at) (own_shown n w sets.at) (part_shown w sets.at) (of_own n w) (of_parts w)

    of_parts : (w : WhatTree) → Each (part_lines w names sets.at) (part_shown w sets.at)
    of_parts (tree.assign x e) = tt
    of_parts (tree.block_if arms other) = both (arms_lines arms names sets.at) (else_lines other names sets.at) (arms_shown arms sets.at) (else_shown other sets.at) (of_arms arms) (of_else other)
    of_parts (tree.logical_if e s) = tt
    of_parts (tree.do_loop l) = of_loop l
    of_parts (tree.call x es) = tt
    of_parts (tree.goto l) = tt
    of_parts tree.continue = tt
    of_parts tree.return = tt
    of_parts (tree.stop text) = tt
    of_parts (tree.print es) = tt
    of_parts (tree.read es) = tt

    of_list : (ss : StmtTrees) → Each (list_lines ss names sets.at) (list_shown ss sets.at)
    of_list tree.no_stmts = tt
    of_list (tree.more_stmts s rest) = both (stmt_lines s names sets.at) (list_lines rest names sets.at) (stmt_shown s sets.at) (list_shown rest sets.at) (of_stmt s) (of_list rest)

    of_arms : (xs : ArmTrees) → Each (arms_lines xs names sets.at) (arms_shown xs sets.at)
    of_arms tree.no_arms = tt
    of_arms (tree.more_arms (tree.arm test body) rest) = both (list_lines body names sets.at) (arms_lines rest names sets.at) (list_shown body sets.at) (arms_shown rest sets.at) (of_list body) (of_arms rest)

    of_else : (x : ElseTree) → Each (else_lines x names sets.at) (else_shown x sets.at)
    of_else tree.no_else = tt
    of_else (tree.otherwise body) = of_list body

    of_loop : (l : LoopTree) → Each (loop_lines l names sets.at) (loop_shown l sets.at)
    of_loop (tree.loop index first last step body) = of_list body

  of_entry : (main : Bool) → Each (entry_lines main names sets.summary) (entry_regions main sets.summary)
  of_entry true = tt
  of_entry false = of_set 0 sets.summary told.summary

  pub all_lines : (m : ModuleTree) → Each (region_lines_of m.main m.body names sets) (shown_regions m sets)
  all_lines m = both (entry_lines m.main names sets.summary) (list_lines m.body names sets.at) (entry_regions m.main sets.summary) (list_shown m.body sets.at) (of_entry m.main) (of_list m.body)
