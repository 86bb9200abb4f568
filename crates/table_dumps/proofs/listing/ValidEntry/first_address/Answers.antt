use Rattle.std.proofs.Common.{◌≡◌, ℕ, ◌*◌, ◌%◌, ◌^◌, ap, ◌∙◌, arith}
use Rattle.std.proofs.Math.Nat.{mod-eq_of_lt}
use Rattle.table_dumps.specs.Listings.{extended, page_limit}
use Rattle.table_dumps.proofs.Pages.{power_next}
use Rattle.table_dumps.proofs.listing.ValidEntry.first_address.Goals as goal

pub returns : goal.returns
returns c = record {
  value = λ low within.
      let min : c.min.result ≡ c.args.top = omega (arith, c.min.ensures, low) in
      let pages : c.pages_of-limit.result ≡ 512 ^ c.args.top = c.pages_of-limit.ensures.value ∙ ap (λ (n : ℕ). 512 ^ n) min in
      let next = power_next c.args.top in
      let limit : c.pages_of-limit.result * 512 ≡ page_limit c.args.top = omega (arith, pages, next) in
      let page : c.args.self.page % page_limit c.args.top ≡ c.args.self.page = mod-eq_of_lt within in
      c.extended.ensures ∙ ap (λ (n : ℕ). extended n (c.args.self.page % n)) limit ∙ ap (extended (page_limit c.args.top)) page;
}
