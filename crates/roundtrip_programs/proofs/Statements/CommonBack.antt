-- COMMON: its text without blanks, its form, and that it is read back.
use Rattle.std.proofs.Common.{◌≡◌, ℕ, ◌≤◌, List, [], ◌∷◌, ◌++◌, length, refl, ap, ◌∙◌, sym, arith, append_assoc, length-append, Option, Some, None, true, false}
use Rattle.std.specs.Prelude.{codes, Ok}
use Rattle.f77_ast.specs.DeclTrees.{EntityTree, CommonTree, common}
use Rattle.f77_exprs.specs.declared.at.Notes.{Notes}
use Rattle.f77_exprs.specs.Words.{after}
use Rattle.f77_exprs.specs.State.{State, ◌>>=◌}
use Rattle.f77_exprs.specs.Lexical.{letter_first}
use Rattle.f77_exprs.specs.Grammar.{more_by}
use Rattle.f77_forms.specs.declared.form.FormId.TheVariants as forms
use Rattle.f77_statements.specs.Parts.{entity, member_comma, members, block, first_block, next_block}
use Rattle.f77_statements.specs.Specifications.{common_statement}
use Rattle.f77_statements.specs.Statements.{form_at}
use Rattle.f77_printer.specs.Layout.{stripped}
use Rattle.f77_printer.specs.DeclText.{others_by, joined_by, bounds_text, entity_text, block_text, other_commons_text, decl_text}
use Rattle.roundtrip_programs.specs.Statements.Formed.{Each, Filled}
use Rattle.roundtrip_programs.specs.Statements.Declared.{IsEntity, IsBlock, IsCommon}
use Rattle.roundtrip_programs.specs.Statements.Follows.{standing}
use Rattle.roundtrip_programs.proofs.Statements.Names.{letter-append}
use Rattle.roundtrip_programs.proofs.Statements.Behind.{Calm, calm_slash, calm_comma}
use Rattle.roundtrip_programs.proofs.Statements.Fronts.{letter_no_word}
use Rattle.roundtrip_programs.proofs.Statements.Items.{Listed, items_back}
use Rattle.roundtrip_programs.proofs.Statements.Balanced.{tight, listed, Balanced, empty, pair, word}
use Rattle.roundtrip_programs.proofs.Statements.Stripping.{solid}
use Rattle.roundtrip_programs.proofs.Statements.Compact.{name_balanced}
use Rattle.roundtrip_programs.proofs.Statements.Forms.{by_keyword}
use Rattle.roundtrip_programs.proofs.Statements.ListsBack.{calm_end}
use Rattle.roundtrip_programs.proofs.Statements.EntityBack.{entity_balanced, entities_listed}
use Rattle.roundtrip_programs.proofs.Statements.SmallParts.{block_back}
use Rattle.roundtrip_programs.proofs.Statements.DeclBack.{list_balanced, each_of}
use Rattle.roundtrip_programs.proofs.Statements.Chained.{Next, chained_back}

-- the name of a block behind its first slash, with its second one
abbrev pub named : List ℕ → List ℕ
named [] = codes "/"
named (c ∷ cs) = (c ∷ cs) ++ codes "/"

-- the front of the first block
abbrev pub first_named : List ℕ → List ℕ
first_named [] = []
first_named (c ∷ cs) = 47 ∷ ((c ∷ cs) ++ codes "/")

abbrev pub rest_text : List CommonTree → List ℕ
rest_text [] = []
rest_text (c ∷ cs) = 47 ∷ (named c.block ++ (joined_by entity_text c.members ++ rest_text cs))

abbrev pub compact_commons : List CommonTree → List ℕ
compact_commons [] = []
compact_commons (c ∷ cs) = first_named c.block ++ (joined_by entity_text c.members ++ rest_text cs)

-- ---- balanced, and without blanks

pub members_balanced : (ms : List EntityTree) → Filled IsEntity ms → Balanced listed (joined_by entity_text ms)
members_balanced ms h = list_balanced entity_text IsEntity entity_balanced ms (each_of IsEntity ms h)

named_balanced : (b : List ℕ) → IsBlock b → Balanced listed (named b)
named_balanced [] h = word listed (codes "/") refl
named_balanced (c ∷ cs) h = pair listed (c ∷ cs) (codes "/") (name_balanced (c ∷ cs) h listed) (word listed (codes "/") refl)

first_balanced : (b : List ℕ) → IsBlock b → Balanced listed (first_named b)
first_balanced [] h = empty listed
first_balanced (c ∷ cs) h = pair listed (codes "/") ((c ∷ cs) ++ codes "/") (word listed (codes "/") refl) (named_balanced (c ∷ cs) h)

rest_balanced : (cs : List CommonTree) → Each IsCommon cs → Balanced listed (rest_text cs)
rest_balanced [] h = empty listed
rest_balanced (c ∷ cs) h =
    pair listed (codes "/") (named c.block ++ (joined_by entity_text c.members ++ rest_text cs)) (word listed (codes "/") refl)
    (pair listed (named c.block) (joined_by entity_text c.members ++ rest_text cs) (named_balanced c.block h.first.block)
    (pair listed (joined_by entity_text c.members) (rest_text cs) (members_balanced c.members h.first.members) (rest_balanced cs h.others)))

commons_balanced : (cs : List CommonTree) → Filled IsCommon cs → Balanced listed (compact_commons cs)
commons_balanced [] h = absurd h
commons_balanced (c ∷ cs) h =
    pair listed (first_named c.block) (joined_by entity_text c.members ++ rest_text cs) (first_balanced c.block h.first.block)
    (pair listed (joined_by entity_text c.members) (rest_text cs) (members_balanced c.members h.first.members) (rest_balanced cs h.others))

stripped_block : (b u : List ℕ) → IsBlock b → stripped false (block_text false b ++ u) ≡ 47 ∷ (named b ++ stripped false u)
stripped_block [] u h = refl
stripped_block (c ∷ cs) u h =
    ap (λ (x : List ℕ). 47 ∷ x)
    (ap (stripped false) (append_assoc (c ∷ cs) (codes "/ ") u) ∙ solid (name_balanced (c ∷ cs) h tight) (codes "/ " ++ u) ∙ sym (append_assoc (c ∷ cs) (codes "/") (stripped false u)))

stripped_first : (b u : List ℕ) → IsBlock b → stripped false (block_text true b ++ u) ≡ first_named b ++ stripped false u
stripped_first [] u h = refl
stripped_first (c ∷ cs) u h = stripped_block (c ∷ cs) u h

stripped_rest : (cs : List CommonTree) → Each IsCommon cs → stripped false (other_commons_text cs) ≡ rest_text cs
stripped_rest [] h = refl
stripped_rest (c ∷ cs) h =
    ap (stripped false) (append_assoc (block_text false c.block) (joined_by entity_text c.members) (other_commons_text cs))
    ∙ stripped_block c.block (joined_by entity_text c.members ++ other_commons_text cs) h.first.block
    ∙ ap (λ (x : List ℕ). 47 ∷ (named c.block ++ x)) (solid (members_balanced c.members h.first.members) (other_commons_text cs) ∙ ap (λ (x : List ℕ). joined_by entity_text c.members ++ x) (stripped_rest cs h.others))

pub stripped_common : (cs : List CommonTree) → Filled IsCommon cs → stripped false (decl_text (common cs)) ≡ codes "COMMON" ++ compact_commons cs
stripped_common [] h = absurd h
stripped_common (c ∷ cs) h =
    ap (λ (x : List ℕ). codes "COMMON" ++ x)
    (ap (stripped false) (append_assoc (block_text true c.block) (joined_by entity_text c.members) (other_commons_text cs))
    ∙ stripped_first c.block (joined_by entity_text c.members ++ other_commons_text cs) h.first.block
    ∙ ap (λ (x : List ℕ). first_named c.block ++ x) (solid (members_balanced c.members h.first.members) (other_commons_text cs) ∙ ap (λ (x : List ℕ). joined_by entity_text c.members ++ x) (stripped_rest cs h.others)))

pub common_form : (cs : List CommonTree) → Filled IsCommon cs → form_at (codes "COMMON" ++ compact_commons cs) ≡ Ok forms.Common
common_form cs h =
    by_keyword (codes "COMMON" ++ compact_commons cs) forms.Common refl
    (pair listed (codes "COMMON") (compact_commons cs) (word listed (codes "COMMON") refl) (commons_balanced cs h)) refl

-- ---- read back

entity_letter : (e : EntityTree) (u : List ℕ) → IsEntity e → letter_first (entity_text e ++ u) ≡ true
entity_letter e u h = letter-append (e.name ++ bounds_text e.bounds) u (letter-append e.name (bounds_text e.bounds) h.name.letter)

member_on : (e : EntityTree) (u : List ℕ) (k : Notes) → IsEntity e → member_comma (standing (44 ∷ (entity_text e ++ u)) k) ≡ Some (standing (entity_text e ++ u) k)
member_on e u k h =
    let n : after (codes "/") (entity_text e ++ u) ≡ None = letter_no_word (entity_text e ++ u) 47 [] (entity_letter e u h) (omega arith) in
    rw n

members_listed : Listed member_comma entity entity_text Calm IsEntity
members_listed = record { back = entities_listed.back; at_comma = calm_comma; goes_on = member_on }

calm_rest : (cs : List CommonTree) → Calm (rest_text cs)
calm_rest [] = calm_end
calm_rest (c ∷ cs) = calm_slash (named c.block ++ (joined_by entity_text c.members ++ rest_text cs))

no_member : (cs : List CommonTree) (k : Notes) → member_comma (standing (rest_text cs) k) ≡ None
no_member [] k = refl
no_member (c ∷ cs) k = refl

members_back : (b : List ℕ) (ms : List EntityTree) (cs : List CommonTree) (k : Notes) → Filled IsEntity ms
    → members b (standing (joined_by entity_text ms ++ rest_text cs) k) ≡ Some (record { block = b; members = ms }, standing (rest_text cs) k)
unfolding members
members_back b [] cs k h = absurd h
members_back b (m ∷ ms) cs k h =
    ap (λ (o : Option (List EntityTree × State)). o >>= λ ms. Some (record { block = b; members = ms.0 }, ms.1))
    (items_back member_comma entity entity_text Calm IsEntity members_listed m ms (rest_text cs) k h.first h.others (calm_rest cs) (no_member cs k))

block_read : (b : List ℕ) (ms : List EntityTree) (cs : List CommonTree) (k : Notes) → IsBlock b → Filled IsEntity ms
    → block (standing (named b ++ (joined_by entity_text ms ++ rest_text cs)) k) ≡ Some (record { block = b; members = ms }, standing (rest_text cs) k)
unfolding block
block_read [] ms cs k h g = members_back [] ms cs k g
block_read (c ∷ ds) ms cs k h g =
    let u : List ℕ = joined_by entity_text ms ++ rest_text cs in
    ap (λ (x : List ℕ). block (standing x k)) (append_assoc (c ∷ ds) (codes "/") u) ∙ by_name (letter_no_word ((c ∷ ds) ++ (47 ∷ u)) 47 [] (letter-append (c ∷ ds) (47 ∷ u) h.letter) (omega arith))
  where
    by_name : after (codes "/") ((c ∷ ds) ++ (47 ∷ (joined_by entity_text ms ++ rest_text cs))) ≡ None
        → block (standing ((c ∷ ds) ++ (47 ∷ (joined_by entity_text ms ++ rest_text cs))) k) ≡ Some (record { block = c ∷ ds; members = ms }, standing (rest_text cs) k)
    by_name n = rw n (ap (λ (o : Option (List ℕ × State)). o >>= λ b. members b.0 b.1) (block_back (c ∷ ds) (joined_by entity_text ms ++ rest_text cs) k h) ∙ members_back (c ∷ ds) ms cs k g)

first_read : (b : List ℕ) (ms : List EntityTree) (cs : List CommonTree) (k : Notes) → IsBlock b → Filled IsEntity ms
    → first_block (standing (first_named b ++ (joined_by entity_text ms ++ rest_text cs)) k) ≡ Some (record { block = b; members = ms }, standing (rest_text cs) k)
unfolding first_block
first_read [] [] cs k h g = absurd g
first_read [] (m ∷ ms) cs k h g =
    blank (letter_no_word (joined_by entity_text (m ∷ ms) ++ rest_text cs) 47 []
    (letter-append (entity_text m ++ others_by entity_text ms) (rest_text cs) (entity_letter m (others_by entity_text ms) g.first)) (omega arith))
  where
    blank : after (codes "/") (joined_by entity_text (m ∷ ms) ++ rest_text cs) ≡ None
        → first_block (standing (joined_by entity_text (m ∷ ms) ++ rest_text cs) k) ≡ Some (record { block = []; members = m ∷ ms }, standing (rest_text cs) k)
    blank n = rw n (members_back [] (m ∷ ms) cs k g)
first_read (c ∷ ds) ms cs k h g = block_read (c ∷ ds) ms cs k h g

next_read : (k : Notes) (c : CommonTree) (cs : List CommonTree) → IsCommon c → Each IsCommon cs → Next next_block block (rest_text (c ∷ cs)) c (rest_text cs) k
next_read k c cs h e = record {
  behind = standing (named c.block ++ (joined_by entity_text c.members ++ rest_text cs)) k;
  stands = refl;
  reads = block_read c.block c.members cs k h.block h.members;
}

rest_long : (cs : List CommonTree) → length cs ≤ length (rest_text cs)
rest_long [] = omega arith
rest_long (c ∷ cs) =
    let h = rest_long cs in
    omega (arith, h, length-append (named c.block) (joined_by entity_text c.members ++ rest_text cs), length-append (joined_by entity_text c.members) (rest_text cs))

pub common_back : (cs : List CommonTree) (k : Notes) → Filled IsCommon cs → common_statement (standing (codes "COMMON" ++ compact_commons cs) k) ≡ Some (common cs, standing [] k)
unfolding common_statement
common_back [] k h = absurd h
common_back (c ∷ cs) k h =
    ap (λ (o : Option (CommonTree × State)). o >>= λ b. more_by next_block block (length b.1.rest) (b.0 ∷ []) b.1 >>= λ bs. Some (common bs.0, bs.1))
    (first_read c.block c.members cs k h.first.block h.first.members)
    ∙ ap (λ (o : Option (List CommonTree × State)). o >>= λ bs. Some (common bs.0, bs.1))
    (chained_back next_block block rest_text IsCommon k (next_read k) refl cs (length (rest_text cs)) (c ∷ []) h.others (rest_long cs))
