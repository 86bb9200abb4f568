use Rattle.std.proofs.Common.{◌≡◌, ℕ, ◌+◌, ◌-◌, ◌≤◌, List, ◌++◌, length, ap, ◌∙◌, refl, arith}
use Rattle.script_language.proofs.Hexadecimal.{begins, ends, goes_len, goes_on, few_written}
use Rattle.script_language.proofs.digits.put_hexadecimal.Goals as goal

pub digits-init : goal.digits-init
digits-init c = record {
  left = begins c.args.number _ refl (omega arith);
  items = refl;
  len = refl;
  capacity = refl;
}

pub put-requires : goal.put-requires
put-requires c =
    let inv = c.digits.invariant in
    let short : length c.split_at.result.1.now ≤ 16 = few_written _ _ _ (goes_len c.digits.digits _ _ inv.left.len) c.split_at.ensures.back in
    record { room = omega (arith, short, inv.len, inv.capacity) }

pub returns-then-rest-lt16-clause-text : goal.returns-then-rest-lt16-clause-text
returns-then-rest-lt16-clause-text c =
    let inv = c.digits.invariant in
    let at = c.digits.at in
    let is : at ≡ at - 1 + 1 = omega (arith, inv.left.low) in
    let all = ends c.args.number c.digits.rest at (at - 1) c.digits.digits is inv.left c.glyph.result c.glyph.ensures (omega arith) in
    c.put.ensures.text ∙ ap (λ (l : List ℕ). l ++ c.split_at.result.1.now) inv.items ∙ ap (λ (l : List ℕ). c.args.text.now.items ++ l) (c.split_at.ensures.back ∙ all)

pub returns-then-rest-lt16-clause-len : goal.returns-then-rest-lt16-clause-len
returns-then-rest-lt16-clause-len c =
    let inv = c.digits.invariant in
    let short : length c.split_at.result.1.now ≤ 16 = few_written _ _ _ (goes_len c.digits.digits _ _ inv.left.len) c.split_at.ensures.back in
    omega (arith, short, inv.len, c.put.ensures.len)

pub returns-then-rest-lt16-clause-capacity : goal.returns-then-rest-lt16-clause-capacity
returns-then-rest-lt16-clause-capacity c =
    let inv = c.digits.invariant in
    omega (arith, inv.capacity, c.put.ensures.capacity)

pub digits-preserved : goal.digits-preserved
digits-preserved c =
    let inv = c.digits.invariant in
    let at = c.digits.at in
    let is : at ≡ at - 1 + 1 = omega (arith, inv.left.low) in
    record {
      left = goes_on c.args.number c.digits.rest at (at - 1) c.digits.digits is inv.left c.glyph.result c.glyph.ensures (omega arith);
      items = inv.items;
      len = inv.len;
      capacity = inv.capacity;
    }
