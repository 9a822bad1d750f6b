-- The packets that were worked out by hand, by computation.
use mathlib.Core.Path.{refl}
use Rattle.ids.specs.Limits.{valid_parties_up_to, valid_stamped_up_to, valid_owner, valid_request}
use Rattle.wire.specs.Bytes.{decode}
use Rattle.wire.specs.Format.{length_of, length_in, kind_in, field_in, fields_in, message_of, valid_up_to, valid_response_up_to}
use Rattle.wire.specs.Calls.{read_up_to}
use Rattle.packet.specs.Packet.{fits, cut_into, read_parts, contents_of, total_in, framed, packet_of}
use Rattle.packet.specs.Reading.{find_in, next_of}
use Rattle.packet.specs.Packing.{packed, pack_of}
use Rattle.packet.specs.Samples.{All, samples, Packings}

pub samples_hold : All samples
unfolding samples next_of packet_of framed total_in contents_of cut_into fits read_parts find_in length_in kind_in field_in fields_in decode read_up_to message_of length_of valid_up_to valid_stamped_up_to valid_parties_up_to valid_response_up_to valid_owner valid_request
samples_hold = (refl, (refl, (refl, (refl, (refl, (refl, (refl, (refl, (refl, (refl, (refl, (refl, (refl, (refl, (refl, (refl, (refl, tt)))))))))))))))))

pub packings_hold : Packings
unfolding packed pack_of contents_of cut_into fits read_parts length_in kind_in field_in fields_in decode read_up_to message_of length_of valid_up_to valid_stamped_up_to valid_parties_up_to valid_response_up_to valid_owner valid_request
packings_hold = (refl, refl, refl, refl, refl, refl, refl)
