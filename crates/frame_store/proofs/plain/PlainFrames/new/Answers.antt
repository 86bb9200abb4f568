use Rattle.std.proofs.Common.{◌≡◌, arith, rules, subst}
use Rattle.std.specs.Prelude.{replicate}
use Rattle.frame_store.proofs.PlainSteps.{invariant-open}
use Rattle.frame_store.proofs.Unused.{all_listed, ListsFrom}
use Rattle.frame_store.proofs.plain.PlainFrames.new.Goals as goal

pub invariant_of-store : goal.invariant_of-store
invariant_of-store c =
    let counts : c.in_ok-counts.counts.items ≡ replicate c.args.frames 0 = search rules in
    let all : c.loop-frame.frame ≡ c.args.frames = omega (arith, c.loop-frame.auto.frame-end) in
    rw counts (all_listed _ c.args.frames c.requires.some c.requires.few (subst (ListsFrom c.loop-frame.unused.items) all c.loop-frame.invariant))

pub returns-clause-invariant : goal.returns-clause-invariant
returns-clause-invariant c =
    let counts : c.in_ok-counts.counts.items ≡ replicate c.args.frames 0 = search rules in
    rw (c.in_ok-words.ensures.zeros, counts, c.knowing.ensures) (invariant-open c.args.frames c.requires.some c.requires.few)
