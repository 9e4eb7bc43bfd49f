-- What it means to read a text with its claims: the modules of the text, and before which of their parts claims stand.
use Rattle.std.specs.Prelude.{◌≡◌, ℕ, ◌+◌, Bool, if◌then◌else◌, List, [], ◌∷◌, ◌++◌, map, nat_eq, nat_lt, codes}
use Rattle.std.specs.List.{flat_map, starts_with}
use Rattle.fixed_form.specs.TextLines.{text_lines}
use Rattle.f77_ast.specs.declared.places.Part.{Part}
use Rattle.f77_ast.specs.declared.places.Spot.{Spot}
use Rattle.f77_ast.specs.DeclTrees.{ModuleTree, ParsedTree}
use Rattle.f77_printer.specs.declared.added.Added.{Added}
use Rattle.f77_printer.specs.AddedText.{part_of}
use Rattle.f77_printer.specs.ModuleText.{first_part}
use Rattle.f77_printer.specs.PageText.{is_part}
use Rattle.laws_programs.specs.roundtrip_programs.ModuleTexts.Cards.{Card, statements_of}
use Rattle.laws_programs.specs.roundtrip_programs.Texts.Texts.{IsReadAs, module_of}
use Rattle.system_text.specs.Reading.{Bytes}

-- ---- lines

-- a claim is a line that begins with C>
abbrev pub is_claim : Bytes → Bool
is_claim line = starts_with nat_eq line (codes "C>")

-- a claim, and the number of its line
pub record Claim : Type 0 where
  pub line : ℕ
  pub text : Bytes

-- those of the lines from line n on
abbrev pub claims_from : ℕ → List Bytes → List Claim
claims_from n [] = []
claims_from n (l ∷ ls) = if is_claim l then record { line = n; text = l } ∷ claims_from (n + 1) ls else claims_from (n + 1) ls

abbrev pub claims_in : Bytes → List Claim
claims_in text = claims_from 1 (text_lines text)

-- ---- which part a claim stands before

-- a claim that stands before a part of a module
pub record Standing : Type 0 where
  pub part : Part
  pub text : Bytes

-- before a part that begins in this line stand the claims in the lines above it, and others are left
abbrev pub taken_by : Part → ℕ → List Claim → List Standing × List Claim
taken_by part first [] = ([], [])
taken_by part first (c ∷ cs) =
    if nat_lt c.line first then (record { part = part; text = c.text } ∷ (taken_by part first cs).0, (taken_by part first cs).1) else ([], c ∷ cs)

-- the claims before the parts at these spots, in the order of the text: each stands before the first part that begins below it
unfoldable pub standing : List Spot → List Claim → List Standing × List Claim
standing [] cs = ([], cs)
standing (s ∷ ss) cs =
    let own = taken_by s.part s.first cs in
    let more = standing ss own.1 in
    (own.0 ++ more.0, more.1)

-- those of modules one after another
abbrev pub all_standing : List ParsedTree → List Claim → List (List Standing) × List Claim
all_standing [] cs = ([], cs)
all_standing (p ∷ ps) cs =
    let own = standing p.places.spots cs in
    let more = all_standing ps own.1 in
    (own.0 ∷ more.0, more.1)

-- ---- texts

-- the text is read as these modules; of its claims these stand in each, in the order of the text, each before its part; and none is left
pub record ReadClaims (text : Bytes) (ps : List ParsedTree) (claims : List (List Standing)) : Type 0 where
  pub read : IsReadAs text ps
  pub stand : all_standing ps (claims_in text) ≡ (claims, [])

-- ---- claims that were added

-- the claims among the lines that are added before a part, in their order
abbrev pub claims_at : Part → List Added → Part → List Standing
claims_at first [] part = []
claims_at first (a ∷ others) part =
    if is_part part (part_of first a) then (if is_claim a.line then record { part = part; text = a.line } ∷ claims_at first others part else claims_at first others part) else claims_at first others part

-- those of all parts of a module, in the order of its text
abbrev pub claims_added : ModuleTree → List Added → List Standing
claims_added m added = flat_map (λ (c : Card). claims_at (first_part m) added c.part) (statements_of m)

-- the text of modules with added lines is read as these modules with just the claims that were added, each before its part
pub record ClaimsBack (text : Bytes) (ps : List ParsedTree) (added : ParsedTree → List Added) : Type 0 where
  pub again : List ParsedTree
  pub read : ReadClaims text again (map (λ (p : ParsedTree). claims_added p.module_read (added p)) ps)
  pub same : map module_of again ≡ map module_of ps
