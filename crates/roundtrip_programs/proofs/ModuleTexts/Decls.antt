-- What is written of a specification statement stands no deeper than what was read.
use Rattle.std.proofs.Common.{◌≡◌, ℕ, ◌+◌, List, [], ◌∷◌, length, refl, Option, Some, None}
use Rattle.std.specs.Prelude.{codes}
use Rattle.f77_ast.specs.declared.decl.SaveItem.{SaveItem}
use Rattle.f77_ast.specs.DeclTrees.{DeclTree, implicit, common}
use Rattle.f77_exprs.specs.State.{State, ◌>>=◌}
use Rattle.f77_exprs.specs.Grammar.{items, items_by, more_by}
use Rattle.f77_statements.specs.Lists.{ending, items_left}
use Rattle.f77_statements.specs.Parts.{implicit_part, entity, array, setting, group, save_item, first_block, block, next_block, data_group, next_group}
use Rattle.f77_statements.specs.Specifications.{implicit_parts, implicit_statement, integer_statement, logical_statement, dimension_statement, parameter_statement, common_statement, equivalence_statement, save_statement, data_statement}
use Rattle.f77_printer.specs.DeclText.{entity_text, part_text, setting_text, group_text, save_item_text, save_text, data_group_text, decl_text}
use Rattle.roundtrip_programs.specs.Statements.Formed.{Each}
use Rattle.roundtrip_programs.proofs.ModuleTexts.Levels.{IsShallow, Leads, join, plain, opens, opened, closes}
use Rattle.roundtrip_programs.proofs.ModuleTexts.Readers.{Within, Even, Level, seq, then_read, then_word, else_word}
use Rattle.roundtrip_programs.proofs.ModuleTexts.Lists.{joined-leads, items-even, items_left-even, ending_closed}
use Rattle.roundtrip_programs.proofs.ModuleTexts.Parts.{part-even, entity-even, array-even, setting-even, group-even, save-even}
use Rattle.roundtrip_programs.proofs.ModuleTexts.Blocks.{Blocked, blocks_even, commons-leads, groups_even, data-leads}

parts-even : Even implicit_parts (Level decl_text)
unfolding implicit_parts
parts-even n s h =
    then_read (items implicit_part) (λ m. Each (Level part_text m)) _ s n n (Level decl_text n) (items-even implicit_part (Level part_text) part-even) h
    (λ ps x i. (join (plain n (codes "IMPLICIT ") refl) (joined-leads part_text n ps.0 x), i))

pub implicit_even : Even implicit_statement (Level decl_text)
unfolding implicit_statement
implicit_even n s h =
    then_word (codes "IMPLICIT") s _ n n (Level decl_text n) h
    (λ r i. let t : State = record s { rest = r } in
    else_word (codes "NONE") t (λ u. Some (implicit None, u)) (implicit_parts t) n n (Level decl_text n) i (λ q j. (plain n (codes "IMPLICIT NONE") refl, j)) (parts-even n t i))

pub integer_even : Even integer_statement (Level decl_text)
unfolding integer_statement
integer_even n s h =
    then_word (codes "INTEGER") s _ n n (Level decl_text n) h
    (λ r i. then_read (items entity) (λ m. Each (Level entity_text m)) _ (record s { rest = r }) n n (Level decl_text n) (items-even entity (Level entity_text) entity-even) i
    (λ es x j. (join (plain n (codes "INTEGER ") refl) (joined-leads entity_text n es.0 x), j)))

pub logical_even : Even logical_statement (Level decl_text)
unfolding logical_statement
logical_even n s h =
    then_word (codes "LOGICAL") s _ n n (Level decl_text n) h
    (λ r i. then_read (items entity) (λ m. Each (Level entity_text m)) _ (record s { rest = r }) n n (Level decl_text n) (items-even entity (Level entity_text) entity-even) i
    (λ es x j. (join (plain n (codes "LOGICAL ") refl) (joined-leads entity_text n es.0 x), j)))

pub dimension_even : Even dimension_statement (Level decl_text)
unfolding dimension_statement
dimension_even n s h =
    then_word (codes "DIMENSION") s _ n n (Level decl_text n) h
    (λ r i. then_read (items array) (λ m. Each (Level entity_text m)) _ (record s { rest = r }) n n (Level decl_text n) (items-even array (Level entity_text) array-even) i
    (λ es x j. (join (plain n (codes "DIMENSION ") refl) (joined-leads entity_text n es.0 x), j)))

pub parameter_even : Even parameter_statement (Level decl_text)
unfolding parameter_statement
parameter_even n s h =
    then_word (codes "PARAMETER(") s _ n n (Level decl_text n) h
    (λ r i. seq (ending (codes ")") (items setting) (record s { rest = r })) _ n n (Each (Level setting_text (n + 1))) (Level decl_text n)
    (ending_closed (items setting) (λ m. Each (Level setting_text m)) n (record s { rest = r }) (items-even setting (Level setting_text) setting-even) (opened n r i))
    (λ ss x j. (join (plain n (codes "PARAMETER ") refl) (join (join (opens n r i) (joined-leads setting_text (n + 1) ss.0 x)) (closes n)), j)))

pub common_even : Even common_statement (Level decl_text)
unfolding common_statement
common_even n s h = then_word (codes "COMMON") s _ n n (Level decl_text n) h (λ r i. all n (record s { rest = r }) i)
  where
    -- the blocks first, and then the statement
    regroup : {A B C : Type 0} (o : Option A) (f : A → Option B) (g : B → Option C) → ((o >>= f) >>= g) ≡ (o >>= λ x. f x >>= g)
    regroup None f g = refl
    regroup (Some x) f g = refl

    all : (n : ℕ) (t : State) → IsShallow n t.rest → Within (first_block t >>= λ b. more_by next_block block (length b.1.rest) (b.0 ∷ []) b.1 >>= λ bs. Some (common bs.0, bs.1)) n (Level decl_text n)
    all n t h =
        rw (← regroup {C = DeclTree × State} (first_block t) (λ b. more_by next_block block (length b.1.rest) (b.0 ∷ []) b.1) (λ bs. Some (common bs.0, bs.1)))
        (seq (first_block t >>= λ b. more_by next_block block (length b.1.rest) (b.0 ∷ []) b.1) (λ bs. Some (common bs.0, bs.1)) n n (Each (Blocked n)) (Level decl_text n)
        (blocks_even n t h) (λ bs x i. (join (plain n (codes "COMMON ") refl) (commons-leads n bs.0 x), i)))

pub equivalence_even : Even equivalence_statement (Level decl_text)
unfolding equivalence_statement
equivalence_even n s h =
    then_word (codes "EQUIVALENCE") s _ n n (Level decl_text n) h
    (λ r i. then_read (items group) (λ m. Each (Level group_text m)) _ (record s { rest = r }) n n (Level decl_text n) (items-even group (Level group_text) group-even) i
    (λ gs x j. (join (plain n (codes "EQUIVALENCE ") refl) (joined-leads group_text n gs.0 x), j)))

save_leads : (n : ℕ) (xs : List SaveItem) → Each (Level save_item_text n) xs → Leads n n (save_text xs)
save_leads n [] h = plain n (codes "SAVE") refl
save_leads n (x ∷ xs) h = join (plain n (codes "SAVE ") refl) (joined-leads save_item_text n (x ∷ xs) h)

pub save_even : Even save_statement (Level decl_text)
unfolding save_statement
save_even n s h =
    then_word (codes "SAVE") s _ n n (Level decl_text n) h
    (λ r i. then_read (items_left save_item) (λ m. Each (Level save_item_text m)) _ (record s { rest = r }) n n (Level decl_text n) (items_left-even save_item (Level save_item_text) save-even) i
    (λ xs x j. (save_leads n xs.0 x, j)))

pub data_even : Even data_statement (Level decl_text)
unfolding data_statement
data_even n s h =
    then_word (codes "DATA") s _ n n (Level decl_text n) h
    (λ r i. then_read (items_by next_group data_group) (λ m. Each (Level data_group_text m)) _ (record s { rest = r }) n n (Level decl_text n) groups_even i
    (λ gs x j. (join (plain n (codes "DATA ") refl) (data-leads n gs.0 x), j)))
