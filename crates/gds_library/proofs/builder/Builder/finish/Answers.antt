use Rattle.std.proofs.Common.{◌≡◌, ◌∙◌, ap}
use Rattle.gds_library.specs.Drafts.{library_of}
use Rattle.gds_library.proofs.Readings.{stream_read}
use Rattle.gds_library.proofs.Drafting.{drafted_as}
use Rattle.gds_library.proofs.builder.Builder.finish.Goals as goal

pub returns : goal.returns
returns c = λ items follows whole.
    let read = stream_read items whole in
    record {
      library = read.0;
      says = read.1;
      is = c.library.ensures ∙ ap library_of follows.draft ∙ drafted_as c.args.self.keep items read.0 read.1;
    }
