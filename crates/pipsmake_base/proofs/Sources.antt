-- The modules of a base, read from their texts.
use Rattle.std.proofs.Common.{◌≡◌, ℕ, true, List, [], ◌∷◌, ◌++◌, map, Some, Result, Ok, Err, refl, sym, ap, ◌∙◌, subst, append_assoc, append-nil}
use Rattle.std.proofs.lemmas.List.{map-append}
use Rattle.f77_ast.specs.declared.places.Parsed.{Parsed}
use Rattle.f77_ast.specs.DeclTrees.{ParsedTree}
use Rattle.f77_ast.specs.PlainDecl.{parsed_tree}
use Rattle.f77_parser.specs.Gives.{Refused}
use Rattle.f77_ast.specs.declared.symbol.Symbol.{Symbol}
use Rattle.f77_ast.specs.Symbols.{SymbolTree, symbol_tree}
use Rattle.storage_layout.specs.Symbols.{symbols_of}
use Rattle.base_json.specs.Distinct.{are_new}
use Rattle.base_text.specs.declared.base.BaseModule.{BaseModule}
use Rattle.base_text.specs.Modules.{module_names_in, tree_in}
use Rattle.pipsmake_db.specs.pipsmake_meaning.Texts.{modules_of, with_table, one_module, module_read, names_in}
use Rattle.pipsmake_db.specs.session_texts.declared.source.Source.{Source}
use Rattle.pipsmake_db.specs.session_texts.Modules.{AreSources, NamesDiffer, source_text}
use Rattle.pipsmake_db.specs.session_texts.Changes.{replaced}
use Rattle.pipsmake_db.proofs.SessionTexts.Replaced.{replaced_none}
use Rattle.pipsmake_db.specs.declared.db.Db.{Db}
use Rattle.pipsmake_db.specs.Puts.{Puts}
use Rattle.pipsmake_db.specs.State.{first_state, IsIn}
use Rattle.pipsmake_base.specs.Saved.{text_at}
use Rattle.pipsmake_base.specs.Texts.{IsSourceOf, AreSourcesOf, plain_state}
use Rattle.pipsmake_base.proofs.Distinct.{new_differ}

-- ---- one module

by_tree : (r : Result (List ParsedTree) Refused) (p : ParsedTree) (t : List SymbolTree) → tree_in r ≡ Some p → symbols_of p ≡ Ok t → one_module r ≡ Some (record { module_is = p; table = t })
by_tree (Ok []) p t e f = cc
by_tree (Ok (q ∷ [])) p t e f = (let same : q ≡ p = cc in ap (λ z. with_table z (symbols_of z)) same ∙ ap (with_table p) f)
by_tree (Ok (q ∷ r ∷ ps)) p t e f = cc
by_tree (Err r) p t e f = cc

pub is_source : (held : BaseModule) (p : Parsed) (ss : List Symbol) (s : Source) → s.parsed ≡ p → s.symbols ≡ ss → s.text.text ≡ held.text → s.text.name ≡ held.name → s.text.first ≡ 1
    → tree_in (modules_of held.text) ≡ Some (parsed_tree p) → symbols_of (parsed_tree p) ≡ Ok (map symbol_tree ss) → p.module.name ≡ held.name → IsSourceOf held s
is_source held p ss s ep es et en ef tree table named = record {
  is = record {
    is_read = ap module_read et ∙ by_tree (modules_of held.text) (parsed_tree p) (map symbol_tree ss) tree table ∙ sym (λ i. Some (record { module_is = parsed_tree (ep i); table = map symbol_tree (es i) }));
    is_named = ap (λ (q : Parsed). q.module.name) ep ∙ named ∙ sym en;
  };
  text = λ i. record { name = en i; text = et i; first = ef i };
}

-- ---- one after another

-- the first of these were read, and these are left
pub record SourcesRest (all : List BaseModule) (ss : List Source) (left : List BaseModule) : Type 0 where
  pub are : AreSources ss
  pub parts : map source_text ss ++ map text_at left ≡ map text_at all

pub sources_none : (all : List BaseModule) → SourcesRest all [] all
sources_none all = record { are = tt; parts = refl }

pub sources_more : (all : List BaseModule) (ss ts : List Source) (s : Source) (m : BaseModule) (left : List BaseModule) → SourcesRest all ss (m ∷ left) → IsSourceOf m s → ts ≡ ss ++ s ∷ [] → SourcesRest all ts left
sources_more all ss ts s m left r of_m e = record {
  are = subst AreSources (sym e) (are_more ss r.are);
  parts =
      ap (λ us. map source_text us ++ map text_at left) e
      ∙ ap (λ us. us ++ map text_at left) (map-append source_text ss (s ∷ []))
      ∙ append_assoc (map source_text ss) (source_text s ∷ []) (map text_at left)
      ∙ ap (λ t. map source_text ss ++ t ∷ map text_at left) of_m.text
      ∙ r.parts;
}
  where
    are_more : (us : List Source) → AreSources us → AreSources (us ++ s ∷ [])
    are_more [] h = (of_m.is, tt)
    are_more (u ∷ us) h = (h.0, are_more us h.1)

pub sources_all : (all : List BaseModule) (ss : List Source) → SourcesRest all ss [] → AreSourcesOf all ss
sources_all all ss r = record { are = r.are; texts = sym (append-nil (map source_text ss)) ∙ r.parts }

-- ---- a database

names_at : (ms : List BaseModule) → names_in (map text_at ms) ≡ module_names_in ms
names_at [] = refl
names_at (m ∷ ms) = ap (λ xs. m.name ∷ xs) (names_at ms)

pub differ : (ms : List BaseModule) (ss : List Source) → are_new [] (module_names_in ms) ≡ true → AreSourcesOf ms ss → NamesDiffer (map source_text ss)
differ ms ss e are = new_differ [] (names_in (map source_text ss)) (ap (are_new []) (ap names_in are.texts ∙ names_at ms) ∙ e)

pub over : (ms : List BaseModule) (ss : List Source) (old new : Db) (names : List (List ℕ)) → are_new [] (module_names_in ms) ≡ true → AreSourcesOf ms ss → IsIn old first_state → Puts old new (map source_text ss) names → IsIn new (plain_state (map text_at ms))
over ms ss old new names e are i p =
    let texts : replaced [] (map source_text ss) ≡ map text_at ms = replaced_none (map source_text ss) (differ ms ss e are) ∙ are.texts in
    subst (λ ts. IsIn new (plain_state ts)) texts (p.leads first_state i)
