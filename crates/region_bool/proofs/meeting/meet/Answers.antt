use Rattle.region_bool.proofs.Meetings.{first_before, second_before}
use Rattle.region_bool.proofs.meeting.meet.Goals as goal

pub returns-then-stands_before : goal.returns-then-stands_before
returns-then-stands_before c =
    first_before c.args.first c.args.second (c.stands_before.ensures.yes c.if-stands_before.true) c.requires.first_wide c.requires.second_wide

pub returns-then-stands_before-2 : goal.returns-then-stands_before-2
returns-then-stands_before-2 c =
    second_before c.args.first c.args.second (c.stands_before-else-stands_before.ensures.yes c.if-stands_before-2.true) c.requires.first_wide c.requires.second_wide
