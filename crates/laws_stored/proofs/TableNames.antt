-- Modules that were read have names of FORTRAN: their own, those of their symbols, and those of blocks.
use Rattle.std.proofs.Common.{◌≡◌, ℕ, zero, suc, ◌+◌, Bool, true, false, List, [], ◌∷◌, ◌++◌, map, None, Ok, Some, refl, sym, subst}
use Rattle.std.specs.Prelude.{Option, if◌then◌else◌, ◌||◌, not, bytes_eq, slice_get, flat_map}
use Rattle.std.proofs.lemmas.Slice.Eq.{bytes_eq-Decides}
use Rattle.f77_ast.specs.declared.module.FunctionForm.{FunctionForm}
use Rattle.f77_ast.specs.declared.places.Part.TheVariants as parts
use Rattle.f77_ast.specs.DeclTrees.{CommonTree, DeclTree, ModuleTree, ParsedTree}
use Rattle.f77_ast.specs.DeclTrees as decl
use Rattle.f77_statements.specs.Phrases.{program, end_module}
use Rattle.f77_parser.specs.Elaborated.{meant_in}
use Rattle.f77_ast.specs.declared.symbol.Place.{Place}
use Rattle.f77_ast.specs.declared.symbol.Place.TheVariants.{Local, Dummy, Block, Constant}
use Rattle.f77_ast.specs.Symbols.{SymbolTree}
use Rattle.f77_meaning.specs.Modules.{known_of, symbol_names}
use Rattle.storage_layout.specs.Statements.{Has, commons_in, commons, members_in}
use Rattle.storage_layout.specs.Symbols.{symbols_of}
use Rattle.laws_programs.specs.roundtrip_programs.Statements.Formed.{Each as All, Filled}
use Rattle.laws_programs.specs.roundtrip_programs.Statements.Phrased.{IsPhrase}
use Rattle.laws_programs.specs.roundtrip_programs.Statements.Declared.{IsBlock, IsCommon, IsDecl}
use Rattle.laws_programs.specs.roundtrip_programs.ModuleTexts.Cards.{Card, card, head_phrase, cards_in, title_cards, decl_cards, statements_of}
use Rattle.laws_programs.specs.roundtrip_programs.ModuleTexts.Folded.{folded}
use Rattle.laws_programs.specs.roundtrip_programs.ModuleTexts.Numbered.{TitleFits}
use Rattle.laws_programs.proofs.RoundtripPrograms.ModuleTexts.Kept.{Held, Each-append, each-map}
use Rattle.laws_programs.proofs.RoundtripPrograms.Body.{AreCards, left_of, right_of}
use Rattle.laws_programs.specs.Layout.Laws.{BlocksHaveAChain}
use Rattle.laws_programs.specs.Programs.{AreTables}
use Rattle.laws_programs.proofs.Sources.{IsBuilt}
use Rattle.base_json.specs.Scopes.{is_block}
use Rattle.base_values.specs.Naming.{Each}
use Rattle.laws_stored.proofs.ShortNames.{IsWord, word, symbols_words}
use Rattle.laws_stored.proofs.Symbols.{PlaceNamed, SymbolsNamed, ModuleNamed}
use Rattle.laws_programs.proofs.RoundtripPrograms.ModuleTexts.Cards.{Any as AnyLabel}

-- what stands before the statements
pub heads : (m : ModuleTree) → AreCards (statements_of m) → AreCards (title_cards m ++ decl_cards 0 m.decls)
unfolding statements_of
heads m k =
    let cs = cards_in (meant_in m).is_while (folded m).body in
    left_of (title_cards m ++ decl_cards 0 m.decls) cs (left_of (title_cards m ++ decl_cards 0 m.decls ++ cs) (card parts.End None end_module ∷ []) k)

formed : (p : ParsedTree) → IsBuilt p → AreCards (statements_of p.module_read)
formed p b = each-map (Held AnyLabel IsPhrase) (λ (c : Card). IsPhrase c.phrase) (statements_of p.module_read) (λ c h. h.1) b.formed

-- ---- its name

head_named : (function : Option FunctionForm) (name : List ℕ) (dummies : List (List ℕ)) → IsPhrase (head_phrase function name dummies) → IsWord name
head_named None name dummies k = word name k.name
head_named (Some form) name dummies k = word name k.name

titled_named : (main titled : Bool) (function : Option FunctionForm) (name : List ℕ) (dummies : List (List ℕ)) → TitleFits main titled name dummies
    → AreCards (if titled || not main then card parts.Title None (if main then program name else head_phrase function name dummies) ∷ [] else []) → IsWord name
titled_named true true function name dummies f k = word name k.first
titled_named true false function name dummies f k = subst IsWord (sym f.unnamed) refl
titled_named false true function name dummies f k = cc
titled_named false false function name dummies f k = head_named function name dummies k.first

title_named : (p : ParsedTree) → IsBuilt p → IsWord p.module_read.name
title_named p b =
    let m = p.module_read in
    titled_named m.main m.titled m.function m.name m.dummies b.well.title (left_of (title_cards m) (decl_cards 0 m.decls) (heads m (formed p b)))

-- ---- blocks

pub filled : (cs : List CommonTree) → Filled IsCommon cs → All IsCommon cs
filled [] h = absurd h
filled (c ∷ cs) h = record { first = h.first; others = h.others }

pub in_decl : (d : DeclTree) → IsDecl d → All IsCommon (commons_in d)
in_decl (decl.common cs) h = filled cs h
in_decl (decl.implicit ps) h = tt
in_decl (decl.integer es) h = tt
in_decl (decl.logical es) h = tt
in_decl (decl.dimension es) h = tt
in_decl (decl.parameter ss) h = tt
in_decl (decl.equivalence gs) h = tt
in_decl (decl.save is) h = tt
in_decl (decl.initial gs) h = tt

pub commons_formed : (place : ℕ) (ds : List DeclTree) → AreCards (decl_cards place ds) → All IsCommon (commons ds)
commons_formed place [] h = tt
commons_formed place (d ∷ ds) h = Each-append IsCommon (commons_in d) (commons ds) (in_decl d h.first) (commons_formed (place + 1) ds h.others)

block_named : (b : List ℕ) → IsBlock b → is_block b ≡ true
block_named [] h = refl
block_named (c ∷ cs) h = word (c ∷ cs) h

-- a block with a member is named by a COMMON
with_member : (b : List ℕ) (cs : List CommonTree) (x : List ℕ) → All IsCommon cs → Has (flat_map (members_in b) cs) x → is_block b ≡ true
with_member b [] x h e = let none = e.1 in cc
with_member b (c ∷ cs) x h e = go (bytes_eq b c.block) refl e (with_member b cs x h.others)
  where
    go : (t : Bool) → bytes_eq b c.block ≡ t → Has ((if t then map (λ e. e.name) c.members else []) ++ flat_map (members_in b) cs) x → (Has (flat_map (members_in b) cs) x → is_block b ≡ true) → is_block b ≡ true
    go true q g ih = subst (λ (z : List ℕ). is_block z ≡ true) (sym ((bytes_eq-Decides b c.block).0 q)) (block_named c.block h.first.block)
    go false q g ih = ih g

-- ---- symbols

symbols_named : (ss : List SymbolTree) → All IsWord (symbol_names ss) → ((i : ℕ) (s : SymbolTree) → slice_get ss i ≡ Some s → PlaceNamed s.place) → SymbolsNamed ss
symbols_named [] n h = tt
symbols_named (s ∷ ss) n h = ((n.first, h zero s refl), symbols_named ss n.others (λ i t e. h (suc i) t e))

pub module_named : BlocksHaveAChain → (p : ParsedTree) (ss : List SymbolTree) → IsBuilt p → symbols_of p ≡ Ok ss → ModuleNamed (record { read = p.module_read; symbols = ss })
module_named law p ss b is = (title_named p b, symbols_named ss (symbols_words p ss b is) (λ i s e. at i s e s.place refl))
  where
    all : All IsCommon (commons p.module_read.decls)
    all = commons_formed 0 p.module_read.decls (right_of (title_cards p.module_read) (decl_cards 0 p.module_read.decls) (heads p.module_read (formed p b)))

    at : (i : ℕ) (s : SymbolTree) → slice_get ss i ≡ Some s → (q : Place) → s.place ≡ q → PlaceNamed q
    at i s e (Local g o) h = tt
    at i s e (Dummy n) h = tt
    at i s e (Block x o) h = let c = law p ss is i o s x e h in with_member x (commons p.module_read.decls) c.0 all c.1
    at i s e (Constant v) h = tt

pub modules_named : BlocksHaveAChain → (ms : List ParsedTree) (ts : List (List SymbolTree)) → All IsBuilt ms → AreTables ms ts → Each ModuleNamed (known_of ms ts)
modules_named law [] ts b h = tt
modules_named law (m ∷ ms) [] b h = tt
modules_named law (m ∷ ms) (t ∷ ts) b h = (module_named law m t b.first h.0, modules_named law ms ts b.others h.1)
