use Rattle.std.proofs.Common.{◌<◌, List, ap, get_or, refl, rules, subst, sym, ◌∙◌}
use Rattle.std.specs.Prelude.{All}
use Rattle.std.proofs.lemmas.List.Elements.{All-get_or, All-push, All-same}
use Rattle.script_language.specs.declared.limits.TheConstants.{MOST_LISTS}
use Rattle.process_model.specs.declared.call.Start.{Start}
use Rattle.script_reader.specs.ThreadsPlayable.{IsStart}
use Rattle.script_language.specs.declared.declarations.ListedStart.{ListedStart}
use Rattle.script_language.specs.declared.declarations.OwnedImage.{OwnedImage}
use Rattle.audit_player.proofs.LentLists.{lent_of, start_below, starts_more}
use Rattle.audit_player.proofs.thread_lists.lend_starts.Goals as goal

pub starts-preserved : goal.starts-preserved
starts-preserved c =
    let s = c.args.script.now in
    let items = c.starts-start-items.result.now in
    let all = subst (All (IsStart s.images s.lists)) (sym c.starts-start-items.ensures) c.requires.playable.starts in
    let below = start_below s.images s.lists items c.starts.start-index _ c.requires.playable.lists all c.starts-test.true in
    let d : ListedStart = record { image = 0; list = 0 } in
    let there = (All-get_or (IsStart s.images s.lists) items c.starts.start-index d c.starts-test.true all).0 in
    let named = c.index-images-start.is ∙ ap (λ (is : List OwnedImage). get_or is (get_or items c.starts.start-index d).image c.index-images-start.result) c.images-images.ensures in
    record {
      room = search rules;
      all = search rules;
      there = All-same (λ (start : Start). start.list < MOST_LISTS) c.push_reserved.new.self.items _ c.push_reserved.ensures.items (All-push (λ (start : Start). start.list < MOST_LISTS) c.starts.starts.items _ c.starts.invariant.there below);
      are = starts_more s.images items c.starts.start-index d c.starts.starts.items c.push_reserved.new.self.items _ c.starts-test.true c.push_reserved.ensures.items c.starts.invariant.are
          (refl, lent_of s.images (get_or items c.starts.start-index d).image c.index-images-start.result c.lend.result there named c.lend.ensures.loads);
    }
