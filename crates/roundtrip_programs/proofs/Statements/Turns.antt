-- Operands with operators between them, from the left: what is read of a text, and what is left to read behind it.
use Rattle.std.proofs.Common.{◌≡◌, ℕ, zero, suc, ◌+◌, ◌-◌, ◌<◌, ◌≤◌, List, ◌++◌, length, refl, ap, ◌∙◌, arith, append_assoc, length-append, Option, Some, None}
use Rattle.f77_ast.specs.declared.expr.BinaryOp.{BinaryOp}
use Rattle.f77_ast.specs.Trees.{ExprTree, binary}
use Rattle.f77_exprs.specs.declared.at.Notes.{Notes}
use Rattle.f77_exprs.specs.State.{State, Reader, or_done, ◌>>=◌}
use Rattle.f77_exprs.specs.Operators.{one_of}
use Rattle.f77_exprs.specs.Grammar.{more, chain}
use Rattle.f77_exprs.proofs.Chains.{more-suc}
use Rattle.roundtrip_programs.specs.Statements.Follows.{standing}

-- the text before what may stand behind it is read as x
abbrev pub Back : {A : Type 0} → Reader A → List ℕ → A → (List ℕ → Type 0) → Type 0
Back R text x Stops = (t : List ℕ) (k : Notes) → Stops t → R (standing (text ++ t) k) ≡ Some (x, standing t k)

-- the text is read as e, behind which operators with operands may be left to read
pub record Reaches (R : Reader ExprTree) (ops : List BinaryOp) (operand : Reader ExprTree) (text : List ℕ) (e : ExprTree) (t : List ℕ) (k : Notes) : Type 0 where
  pub turns : ℕ
  pub enough : length t ≤ turns
  pub reads : R (standing (text ++ t) k) ≡ more ops operand turns e (standing t k)

-- a reader of a first operand and what stands behind it
abbrev pub Starts : Reader ExprTree → List BinaryOp → Reader ExprTree → Reader ExprTree
Starts first ops operand s = first s >>= λ l. more ops operand (length l.1.rest) l.0 l.1

pub starts_with : (first : Reader ExprTree) (ops : List BinaryOp) (operand : Reader ExprTree) (text : List ℕ) (e : ExprTree) (t : List ℕ) (k : Notes)
    → first (standing (text ++ t) k) ≡ Some (e, standing t k) → Reaches (Starts first ops operand) ops operand text e t k
starts_with first ops operand text e t k h = record {
  turns = length t;
  enough = omega arith;
  reads = ap (λ (o : Option (ExprTree × State)). o >>= λ l. more ops operand (length l.1.rest) l.0 l.1) h;
}

pub chain_is : (ops : List BinaryOp) (operand : Reader ExprTree) (s : State) → chain ops operand s ≡ Starts operand ops operand s
unfolding chain
chain_is ops operand s = refl

pub read_as : (R S : Reader ExprTree) (ops : List BinaryOp) (operand : Reader ExprTree) (text : List ℕ) (e : ExprTree) (t : List ℕ) (k : Notes)
    → ((s : State) → R s ≡ S s) → Reaches S ops operand text e t k → Reaches R ops operand text e t k
read_as R S ops operand text e t k h x = record { turns = x.turns; enough = x.enough; reads = h (standing (text ++ t) k) ∙ x.reads }

-- one operator more
turn : (ops : List BinaryOp) (operand : Reader ExprTree) (n : ℕ) (a b : ExprTree) (op : BinaryOp) (s u v : State)
    → 0 < n → one_of ops s ≡ Some (op, u) → operand u ≡ Some (b, v) → more ops operand n a s ≡ more ops operand (n - 1) (binary op a b) v
turn ops operand n a b op s u v l o h =
    more-suc ops operand n a s l
    ∙ ap (λ (x : Option (BinaryOp × State)). or_done a s x (λ o. operand o.1 >>= λ r. more ops operand (n - 1) (binary o.0 a r.0) r.1)) o
    ∙ ap (λ (x : Option (ExprTree × State)). x >>= λ r. more ops operand (n - 1) (binary op a r.0) r.1) h

pub joined : (a w b t : List ℕ) → a ++ w ++ b ++ t ≡ a ++ (w ++ (b ++ t))
joined a w b t = append_assoc (a ++ w) b t ∙ append_assoc a w (b ++ t)

pub goes_on : (R : Reader ExprTree) (ops : List BinaryOp) (operand : Reader ExprTree) (ta w tb : List ℕ) (a b : ExprTree) (op : BinaryOp) (t : List ℕ) (k : Notes)
    → Reaches R ops operand ta a (w ++ (tb ++ t)) k → 0 < length w → one_of ops (standing (w ++ (tb ++ t)) k) ≡ Some (op, standing (tb ++ t) k)
    → operand (standing (tb ++ t) k) ≡ Some (b, standing t k) → Reaches R ops operand (ta ++ w ++ tb) (binary op a b) t k
goes_on R ops operand ta w tb a b op t k x l o h =
    let e : length (w ++ (tb ++ t)) ≡ length w + (length tb + length t) = length-append w (tb ++ t) ∙ ap (λ n. length w + n) (length-append tb t) in
    let m : length (w ++ (tb ++ t)) ≤ x.turns = x.enough in
    record {
      turns = x.turns - 1;
      enough = omega arith;
      reads = ap (λ (y : List ℕ). R (standing y k)) (joined ta w tb t) ∙ x.reads
          ∙ turn ops operand x.turns a b op (standing (w ++ (tb ++ t)) k) (standing (tb ++ t) k) (standing t k) (omega arith) o h;
    }

none_left : (ops : List BinaryOp) (operand : Reader ExprTree) (n : ℕ) (e : ExprTree) (s : State) → one_of ops s ≡ None → more ops operand n e s ≡ Some (e, s)
unfolding more
none_left ops operand zero e s h = refl
none_left ops operand (suc n) e s h = rw h

-- no operator is left
pub comes_to : (R : Reader ExprTree) (ops : List BinaryOp) (operand : Reader ExprTree) (text : List ℕ) (e : ExprTree) (t : List ℕ) (k : Notes)
    → Reaches R ops operand text e t k → one_of ops (standing t k) ≡ None → R (standing (text ++ t) k) ≡ Some (e, standing t k)
comes_to R ops operand text e t k x h = x.reads ∙ none_left ops operand x.turns e (standing t k) h
