use Rattle.std.proofs.Common.{rules, ◌≡◌, codes}
use Rattle.mmu_requests.proofs.NoProfiles.{if_none, no_text}
use Rattle.mmu_requests.proofs.profile_word.ProfileWord.of.Goals as goal

pub returns-clause-none : goal.returns-clause-none
returns-clause-none c =
    let no0 : c.args.text.now ≡ codes "sv39" → ⊥ = search rules in
    let no1 : c.args.text.now ≡ codes "sv48" → ⊥ = search rules in
    let no2 : c.args.text.now ≡ codes "sv57" → ⊥ = search rules in
    let no3 : c.args.text.now ≡ codes "svade" → ⊥ = search rules in
    let no4 : c.args.text.now ≡ codes "svadu" → ⊥ = search rules in
    let no5 : c.args.text.now ≡ codes "ad-either" → ⊥ = search rules in
    let no6 : c.args.text.now ≡ codes "svnapot" → ⊥ = search rules in
    let no7 : c.args.text.now ≡ codes "svpbmt" → ⊥ = search rules in
    let no8 : c.args.text.now ≡ codes "pmp0" → ⊥ = search rules in
    let no9 : c.args.text.now ≡ codes "pmp16" → ⊥ = search rules in
    let no10 : c.args.text.now ≡ codes "pmp64" → ⊥ = search rules in
    let known = no_text c.args.text.now no0 no1 no2 no3 no4 no5 no6 no7 no8 no9 no10 in
    if_none c.of_asid.result known c.of_asid.ensures.none
