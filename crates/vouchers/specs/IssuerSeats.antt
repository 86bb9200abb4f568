-- What contracts say of an issuer and a token: the issuer's list (`given_of`), the entries of a token (`held_of`), and
-- the predicates that an issuer (`KeepsAt`) or a token (`HoldsAt`) belongs to a table.
use Rattle.std.specs.Prelude.{◌≡◌, List}
use Rattle.atomic_table.specs.Seated.{TableId}
use Rattle.vouchers.specs.Entries.{TokenEntry}
use Rattle.vouchers.specs.declared.holders.TokenIssuer.{TokenIssuer}
use Rattle.vouchers.specs.declared.holders.Token.{Token}

-- the issuer's list: the entries of the tokens that are issued and not redeemed
abbrev pub given_of : TokenIssuer → List TokenEntry
given_of k = k.seat.me.0.given

-- the entries that the token holds: an issued token has exactly one
abbrev pub held_of : Token → List TokenEntry
held_of v = v.seat.me.0.held

-- the issuer belongs to the table with this identity
abbrev pub KeepsAt : TableId → TokenIssuer → Type 0
KeepsAt table k = k.seat.table_id ≡ table

-- the token belongs to the table with this identity
abbrev pub HoldsAt : TableId → Token → Type 0
HoldsAt table v = v.seat.table_id ≡ table
