-- What a slot network means: a message waits in a slot as it is.
use Rattle.lanes.specs.Contents.{held}
use Rattle.network.specs.Traffic.{Traffic}
use Rattle.slot_network.specs.declared.SlotNetwork.{SlotNetwork}

abbrev pub traffic_of : SlotNetwork → Traffic
traffic_of net = record { lanes = net.lanes.count; depth = net.lanes.size; waiting = held net.lanes }
