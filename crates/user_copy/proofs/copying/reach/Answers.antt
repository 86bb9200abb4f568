use Rattle.process_model.specs.Process.{regions}
use Rattle.process_model.proofs.ResidenceLaws.{no_alignment}
use Rattle.user_copy.proofs.copying.reach.Goals as goal

pub returns : goal.returns
returns g c =
    let e = rw (← c.stop_of.ensures) at c.serve.ensures.served in
    record {
      reaches = record {
        ended = λ t p space. rw (← no_alignment p.scheme (regions p) c.args.access c.args.va.0) (e.ended t p space);
        ready = e.ready;
        dry = e.dry;
        whole = e.whole;
        unpromised = e.unpromised;
        of_file = λ told is t p space. rw (← no_alignment p.scheme (regions p) c.args.access c.args.va.0) (e.of_file told is t p space);
        stays = e.stays;
        files_stay = e.files_stay;
        moves = λ done t p space. rw (← no_alignment p.scheme (regions p) c.args.access c.args.va.0) (e.moves done t p space);
        enough = e.enough;
        short = e.short;
        free = e.free;
        place = e.place;
        keeps = e.keeps;
      };
    }
