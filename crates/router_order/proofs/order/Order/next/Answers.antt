-- the list tells who has received the event
use Rattle.router_order.proofs.order.Order.next.Goals as goal

pub returns : goal.returns
returns c = λ s v about agrees. c.next_unmarked.ensures s v (rw c.head.ensures about) agrees
