use Rattle.slee_run.proofs.PlayLemmas.{begun, goes_on, nearer, played_closed, room_closed, setup_closed}
use Rattle.slee_run.proofs.playing.play.Goals as goal

pub returns-in-Some-clause-played : goal.returns-in-Some-clause-played
returns-in-Some-clause-played g c =
    played_closed c.args.container.now c.entries.container c.advance.new.container c.entries.invariant c.advance.ensures.setup c.close.new.container c.in-Some.end c.close.result c.in-Some.ensures.advances
    c.close.ensures.closes c.close.ensures.end

pub entries-preserved : goal.entries-preserved
entries-preserved g c = goes_on c.args.container.now c.entries.container c.advance.new.container c.entries.invariant c.advance.ensures.setup c.in-None.ensures.advances

pub returns-in-Some-clause-setup : goal.returns-in-Some-clause-setup
returns-in-Some-clause-setup g c = setup_closed c.args.container.now c.entries.container c.advance.new.container c.entries.invariant c.advance.ensures.setup c.close.new.container c.close.ensures.closes

pub returns-in-Some-clause-room : goal.returns-in-Some-clause-room
returns-in-Some-clause-room g c =
    room_closed c.args.container.now c.entries.container c.advance.new.container c.entries.invariant c.advance.ensures.setup c.close.new.container c.in-Some.end c.in-Some.ensures.advances c.close.ensures.closes

pub entries-init : goal.entries-init
entries-init g c = begun c.args.container.now c.requires.history c.requires.taken c.requires.claims c.requires.live

pub entries-smaller : goal.entries-smaller
entries-smaller g c = nearer c.args.container.now c.entries.container c.advance.new.container c.entries.invariant c.advance.ensures.setup c.in-None.ensures.advances
