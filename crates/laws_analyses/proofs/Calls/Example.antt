-- Of a CALL all that the laws ask is known, and what they give.
use Rattle.std.proofs.Common.{◌≡◌, ℕ, zero, suc, ◌+◌, ◌-◌, List, [], ◌∷◌, Option, Some, None, Bool, true, false, refl, sym, ap, ◌∙◌, subst, arith, ℤ, pos, ◌⊎◌, inl, inr, ⊎_elim}
use Rattle.std.specs.Prelude.{if◌then◌else◌, nat_eq, codes, slice_get}
use Rattle.std.proofs.lemmas.Int.{ints}
use Rattle.std.proofs.lemmas.Bool.{and_parts}
use Rattle.affine_systems.specs.declared.row.Var.TheVariants.{Cell, Exit}
use Rattle.affine_systems.specs.Terms.{term}
use Rattle.f77_ast.specs.declared.symbol.Place.{Place}
use Rattle.f77_ast.specs.declared.symbol.Place.TheVariants.{Local, Dummy, Block, Constant}
use Rattle.f77_ast.specs.Symbols.{SymbolTree}
use Rattle.f77_ast.specs.Shared.{numbered, symbol_at, place_of, place_at}
use Rattle.preconditions.proofs.TransformerAlgebra.KeepLaws.{of_rows_holds}
use Rattle.affine_forms.specs.Scalars.{is_cell}
use Rattle.affine_forms.specs.Forms.{affine}
use Rattle.affine_forms.specs.Comparisons.{var_form}
use Rattle.affine_forms.proofs.RowLaws.{same_holds}
use Rattle.preconditions.specs.transformer_algebra.Cells.{has}
use Rattle.preconditions.specs.transformer_algebra.Claims.{Scene, HoldsAt, Means, Does}
use Rattle.preconditions.specs.call_translation.Scopes.{ScopeTree}
use Rattle.preconditions.specs.call_translation.Actuals.{actual_of, form_in}
use Rattle.preconditions.specs.call_translation.Call.{actual_cell}
use Rattle.preconditions.specs.call_translation.Summary.{call_transformer}
use Rattle.preconditions.specs.call_translation.SiteEntry.{site_entry}
use Rattle.preconditions.specs.transformers.Modules.{is_visible_to_callers}
use Rattle.laws_analyses.specs.Calls.Scenes.{outside, IsInBlock, IsSceneOf}
use Rattle.laws_analyses.specs.Calls.Bindings.{IsDummy, NamesCell, Binds, Begins, Reached, passed_to, shared_with, Runs}
use Rattle.laws_analyses.specs.Calls.Entries.{Enters}
use Rattle.laws_analyses.proofs.Calls.TableLaws.{nothing_some, numbered_at, flag_is, symbol_in}
use Rattle.laws_analyses.proofs.Calls.CallLaws.{does_call}
use Rattle.laws_analyses.proofs.Calls.SiteLaws.{holds_site}
use Rattle.affine_systems.specs.Normal as normal
use Rattle.laws_analyses.proofs.Calls.ExampleProgram.{main, called, actuals, call, summary_rows, summary, site_rows, site}
use Rattle.fx_lists.proofs.Booleans.{clash as clashes}
use Rattle.fx_lists.proofs.Options.{some_is as some_same}

-- ---- tables, element by element

abbrev Each : {A : Type 0} → (ℕ → A → Type 0) → ℕ → List A → Type 0
Each P n [] = Unit {0}
Each P n (x ∷ xs) = P n x × Each P (suc n) xs

each_from : {A : Type 0} (P : ℕ → A → Type 0) (n : ℕ) (xs : List A) (k : ℕ) (x : A) → Each P n xs → slice_get xs k ≡ Some x → P (n + k) x
each_from P n [] k x h e = nothing_some x e
each_from P n (y ∷ ys) zero x h e = let i : n ≡ n + 0 = omega arith in subst (λ j. P j x) i (subst (P n) (some_same y x e) h.0)
each_from P n (y ∷ ys) (suc k) x h e = let i : suc n + k ≡ n + suc k = omega arith in subst (λ j. P j x) i (each_from P (suc n) ys k x h.1 e)

each_at : {A : Type 0} (P : ℕ → A → Type 0) (xs : List A) (n : ℕ) (x : A) → Each P 1 xs → numbered xs n ≡ Some x → P n x
each_at P xs n x h e = let f = numbered_at xs n x e in let i : 1 + (n - 1) ≡ n = omega (arith, f.1) in subst (λ j. P j x) i (each_from P 1 xs (n - 1) x h f.0)

-- ---- its units: those of the block are 0 and 1, that of N is 10, that of the expression 20

abbrev in_main : Scene
in_main = record { tracked = is_cell main.tracked; unit = λ c. if nat_eq c 1 then 0 else if nat_eq c 2 then 1 else 10; far = λ u. false; place = λ u. u.offset }

abbrev in_called : Scene
in_called = record {
  tracked = is_cell called.tracked;
  unit = λ c. if nat_eq c 1 then 10 else if nat_eq c 2 then 20 else if nat_eq c 3 then 0 else 1;
  far = λ u. false;
  place = λ u. u.offset;
}

-- the numbers where the CALL begins, where S is entered, and where that is left
abbrev before : ℕ → ℤ
before u = if nat_eq u 10 then pos 1 else if nat_eq u 0 then pos 5 else pos 0

abbrev entered : ℕ → ℤ
entered u = if nat_eq u 20 then pos 2 else before u

abbrev left : ℕ → ℤ
left u = if nat_eq u 10 then pos 3 else if nat_eq u 0 then pos 6 else entered u

abbrev offset : Place → ℕ
offset (Local g o) = o
offset (Dummy n) = 0
offset (Block b o) = o
offset (Constant n) = 0

abbrev dummy : Place → ℕ
dummy (Local g o) = 0
dummy (Dummy n) = n
dummy (Block b o) = 0
dummy (Constant n) = 0

-- a symbol in the block has a number that is so much more than its offset, and the unit there
abbrev Lies : Scene → ℕ → ℕ → SymbolTree → Type 0
Lies m k c s = (b : List ℕ) (o : ℕ) → s.place ≡ Block b o → (m.unit c ≡ o) × (c ≡ k + o)

lies : (s : ScopeTree) (m : Scene) (k : ℕ) → Each (Lies m k) 1 s.symbols → (c : ℕ) (b : List ℕ) (o : ℕ) → IsInBlock s.symbols c b o → (m.unit c ≡ o) × (c ≡ k + o)
lies s m k h c b o i = let f = symbol_in (symbol_at s.symbols c) b o i in each_at (Lies m k) s.symbols c f.0 h f.1 b o f.2

lie_in_main : Each (Lies in_main 1) 1 main.symbols
lie_in_main = (
  λ b o e. (ap offset e, ap (λ j. 1 + j) (ap offset e)),
  (λ b o e. (ap offset e, ap (λ j. 1 + j) (ap offset e)), (λ b o e. let k : ⊥ = cc in absurd k, tt)),
)

lie_in_called : Each (Lies in_called 3) 1 called.symbols
lie_in_called = (
  λ b o e. let k : ⊥ = cc in absurd k,
  (λ b o e. let k : ⊥ = cc in absurd k, (λ b o e. (ap offset e, ap (λ j. 3 + j) (ap offset e)), (λ b o e. (ap offset e, ap (λ j. 3 + j) (ap offset e)), tt))),
)

main_scene : IsSceneOf main in_main
main_scene = record {
  tracked = λ c. refl;
  blocks = λ c b o t i. (lies main in_main 1 lie_in_main c b o i).0;
  apart = λ c d b o t u i j. (lies main in_main 1 lie_in_main c b o i).1 ∙ sym (lies main in_main 1 lie_in_main d b o j).1;
  hidden = λ u e. clashes false e refl;
}

called_scene : IsSceneOf called in_called
called_scene = record {
  tracked = λ c. refl;
  blocks = λ c b o t i. (lies called in_called 3 lie_in_called c b o i).0;
  apart = λ c d b o t u i j. (lies called in_called 3 lie_in_called c b o i).1 ∙ sym (lies called in_called 3 lie_in_called d b o j).1;
  hidden = λ u e. clashes false e refl;
}

-- ---- what is known of the CALL

-- a dummy is I with the number 1, or J with the number 2
abbrev IsOne : ℕ → SymbolTree → Type 0
IsOne d s = (n : ℕ) → s.place ≡ Dummy n → (d ≡ n) × ((n ≡ 1) ⊎ (n ≡ 2))

dummies : Each IsOne 1 called.symbols
dummies = (
  λ n e. (ap dummy e, inl (sym (ap dummy e))),
  (λ n e. (ap dummy e, inr (sym (ap dummy e))), (λ n e. let k : ⊥ = cc in absurd k, (λ n e. let k : ⊥ = cc in absurd k, tt))),
)

place_is : (ss : List SymbolTree) (d n : ℕ) → place_at ss d ≡ Some (Dummy n) → (s : SymbolTree) × (symbol_at ss d ≡ Some s) × (s.place ≡ Dummy n)
place_is ss d n e = go (symbol_at ss d) e
  where
    go : (o : Option SymbolTree) → place_of o ≡ Some (Dummy n) → (s : SymbolTree) × (o ≡ Some s) × (s.place ≡ Dummy n)
    go None k = nothing_some (Dummy n) k
    go (Some s) k = (s, refl, some_same s.place (Dummy n) k)

one : (d n : ℕ) → IsDummy called.symbols d n → (d ≡ n) × ((n ≡ 1) ⊎ (n ≡ 2))
one d n e = let f = place_is called.symbols d n e in each_at IsOne called.symbols d f.0 dummies f.1 n f.2

lends : (d n v : ℕ) → IsDummy called.symbols d n → NamesCell call n v → (in_main.tracked v ≡ true) × (in_called.unit d ≡ in_main.unit v)
lends d n v e f =
    let i = one d n e in
    ⊎_elim
    (λ j. let m : Some 3 ≡ Some v = sym (ap (actual_cell call) j) ∙ f in
    let w : 3 ≡ v = some_same 3 v m in
    let u : d ≡ 1 = i.0 ∙ j in
    (subst (λ (k : ℕ). in_main.tracked k ≡ true) w refl, ap in_called.unit u ∙ ap in_main.unit w))
    (λ j. nothing_some v (sym (ap (actual_cell call) j) ∙ f))
    i.1

binds : Binds call in_main in_called
binds = record { caller = main_scene; callee = called_scene.blocks; places = λ u. refl; passed_by_reference = lends }

values : (d n : ℕ) → IsDummy called.symbols d n → Means in_main (form_in main (actual_of actuals n)) before (entered (in_called.unit d))
unfolding normal.is_small
values d n e =
    let i = one d n e in
    let M : ℕ → ℕ → Type 0 = λ a b. Means in_main (form_in main (actual_of actuals b)) before (entered (in_called.unit a)) in
    let first : M 1 1 = λ p s. let k : p (Cell 3) ≡ pos 1 = s 3 refl in omega (arith, ints, k) in
    let second : M 2 2 = λ p s. let k : p (Cell 3) ≡ pos 1 = s 3 refl in omega (arith, ints, k) in
    ⊎_elim
    (λ j. subst (λ a. M a n) (sym (i.0 ∙ j)) (subst (M 1) (sym j) first))
    (λ j. subst (λ a. M a n) (sym (i.0 ∙ j)) (subst (M 2) (sym j) second))
    i.1

-- the unit of no cell of the caller is written when S is entered
stays : (c : ℕ) → entered (in_main.unit c) ≡ before (in_main.unit c)
stays c = go (nat_eq c 1) (nat_eq c 2)
  where
    go : (a b : Bool) → entered (if a then 0 else if b then 1 else 10) ≡ before (if a then 0 else if b then 1 else 10)
    go true b = refl
    go false true = refl
    go false false = refl

begins : Begins call in_main in_called before entered
begins = record { kept = record { cells = λ c t e. stays c; foreign = λ u f i. clashes false f refl }; values = values }

-- K and M are shared, and N is passed
abbrev Reaches : ℕ → Bool → Type 0
Reaches v b = b ≡ true → Reached call in_main in_called entered left v

reaches : Each Reaches 1 main.tracked
reaches = (λ t. shared_with 3 (codes "B") 0 refl refl refl, (λ t. shared_with 4 (codes "B") 1 refl refl refl, (λ t. passed_to 1 1 refl refl refl, tt)))

runs : Runs call in_main in_called before entered left left
runs = record {
  binds = binds;
  begins = begins;
  cells = λ v t. each_at Reaches main.tracked v true reaches (flag_is (numbered main.tracked v) t) refl;
  far = λ u f. clashes false f refl;
  ends = record { cells = λ c t e. refl; foreign = λ u f i. refl };
}

-- ---- what follows

-- S adds J to I and 1 to K, and leaves J and L as they are
abbrev Stays : ℕ → Bool → Type 0
Stays c b = has summary.cells c ≡ false → left (in_called.unit c) ≡ entered (in_called.unit c)

stay : Each Stays 1 called.tracked
stay = (λ e. clashes true refl e, (λ e. refl, (λ e. clashes true refl e, (λ e. refl, tt))))

summary_does : Does (outside called.symbols in_called) summary entered left
summary_does = record {
  relates = λ p s e. of_rows_holds summary_rows p
      (let a : p (Cell 1) ≡ pos 1 = s 1 refl in
      let b : p (Cell 2) ≡ pos 2 = s 2 refl in
      let c : p (Exit 1) ≡ pos 3 = e 1 refl refl in
      let d : p (Cell 3) ≡ pos 5 = s 3 refl in
      let f : p (Exit 3) ≡ pos 6 = e 3 refl refl in (
        same_holds (var_form (Exit 1)) (affine (term (Cell 1) (pos 1) ∷ term (Cell 2) (pos 1) ∷ []) (pos 0)) p (omega (arith, ints, a, b, c)),
        (same_holds (var_form (Exit 3)) (affine (term (Cell 3) (pos 1) ∷ []) (pos 1)) p (omega (arith, ints, d, f)), tt),
      ));
  kept = record {
    cells = λ c t e. each_at Stays called.tracked c true stay (flag_is (numbered called.tracked c) (and_parts (is_cell called.tracked c) (is_visible_to_callers called.symbols c) t).0) e;
    foreign = λ u f i. clashes false f refl;
  };
}

-- the CALL leads from N==1, K==5 to N==3, K==6, as its transformer says
call_does : Does in_main (call_transformer main (Some (record { symbols = called.symbols; value = summary })) actuals) before left
call_does = does_call call summary in_main in_called before entered left left runs summary_does

-- what holds at the CALL
site_holds : HoldsAt in_main site.value before
site_holds p s = of_rows_holds site_rows p
    (let a : p (Cell 1) ≡ pos 5 = s 1 refl in
    let b : p (Cell 3) ≡ pos 1 = s 3 refl in
    (same_holds (var_form (Cell 1)) (affine [] (pos 5)) p (omega (arith, ints, a)), (same_holds (var_form (Cell 3)) (affine [] (pos 1)) p (omega (arith, ints, b)), tt)))

abbrev IsTracked : ℕ → SymbolTree → Type 0
IsTracked d s = (n : ℕ) → s.place ≡ Dummy n → in_called.tracked d ≡ true

tracked_dummies : Each IsTracked 1 called.symbols
tracked_dummies = (λ n e. refl, (λ n e. refl, (λ n e. refl, (λ n e. refl, tt))))

enters : Enters called site in_main in_called before entered
enters = record { callee = called_scene; dummies = λ d n s e i f. each_at IsTracked called.symbols d s tracked_dummies e n f; binds = binds; begins = begins }

-- S is entered with I==1, J==2, K==5
entry_holds : HoldsAt (outside called.symbols in_called) (site_entry called site) entered
entry_holds = holds_site called site in_main in_called before entered enters site_holds
