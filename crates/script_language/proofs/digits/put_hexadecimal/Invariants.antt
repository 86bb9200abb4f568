use Rattle.std.proofs.Common.{◌≡◌, vec_len, vec_capacity}
use Rattle.script_language.proofs.Hexadecimal.{IsLeft}
use Rattle.script_language.proofs.digits.put_hexadecimal.Given as goal

abbrev pub invariant-digits : goal.invariant-digits
invariant-digits l = record {
  left : IsLeft l.number l.rest l.at l.digits;
  items : l.text.items ≡ l.fn.text.items;
  len : vec_len l.text ≡ vec_len l.fn.text;
  capacity : vec_capacity l.text ≡ vec_capacity l.fn.text;
}

abbrev pub decreases-digits : goal.decreases-digits
decreases-digits l = l.at
