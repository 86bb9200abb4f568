use Rattle.std.proofs.Common.{rules, subst}
use Rattle.std.proofs.lemmas.List.Elements.{All-push, All-same}
use Rattle.hart_calls.specs.Track.{NamesList}
use Rattle.script_language.specs.declared.limits.TheConstants.{MOST_LISTS}
use Rattle.process_model.specs.declared.call.Call.{Call}
use Rattle.script_language.specs.declared.declarations.ListedCall.{ListedCall}
use Rattle.audit_player.specs.ThreadLists.{IsCallOf}
use Rattle.audit_player.proofs.LentLists.{calls_more}
use Rattle.audit_player.proofs.thread_lists.lend_list.Goals as goal

pub calls-preserved : goal.calls-preserved
calls-preserved c = record {
  room = search rules;
  there = All-same (λ (d : Call). NamesList MOST_LISTS d) c.push_reserved.new.self.items _ c.push_reserved.ensures.items (All-push (λ (d : Call). NamesList MOST_LISTS d) c.calls.list.items _ c.calls.invariant.there c.lend_call.ensures.there);
  are = calls_more c.args.images.now c.args.calls.now c.calls.call-index c.call-item.result c.calls.list.items c.push_reserved.new.self.items c.lend_call.result c.calls-test.true c.push_reserved.ensures.items c.calls.invariant.are
      (subst (λ (l : ListedCall). IsCallOf c.args.images.now l c.lend_call.result) c.call-item.is c.lend_call.ensures.is);
}
